-- Rows that are not malformed and have a right trace meet no fault: the rows up to one that meets 8
-- are the operations of a stack or queue, and operations that all fit do not sink.
-- Assumes nothing.
use Prim.Native.Nat.{ℕ, ◌<◌}
use native.Mathlib.Omega.{arith}
use mathlib.Core.Path.{◌≡◌, refl, sym, ◌∙◌, ap}
use mathlib.Core.Logic.{inl, inr}
use mathlib.Core.Bool.{true, false, ◌&&◌, not, false≢true}
use mathlib.Core.List.{List, [], ◌∷◌, map}
use lib.Dec.{leb}
use lib.ListN.{length, take, drop}
use lib.Seq.{take_at}
use borrow.Author.Tests.{eqb-true, le-ltb, ne_eqb, not-false}
use Rattle.algebra.specs.Prime.{Prime}
use Rattle.memory.specs.declared.Memory.{Memory}
use Rattle.memory.specs.declared.Memory.TheVariants.{Ram, Rom, Set, Stack, Queue}
use Rattle.memory.specs.declared.Row.{Row}
use Rattle.memory.specs.Faults.{Parsed}
use Rattle.memory.specs.Bytes.{all_below}
use Rattle.memory.specs.Content.{Content}
use Rattle.memory.specs.Rows.{limit, sized, allowed, raised, lowered, operation_rows, depth_product, sunk}
use Rattle.memory.specs.File.{rows_of, first_fault}
use Rattle.memory.specs.Bound.{malformed}
use Rattle.runs.specs.Plain.{start, all_fit, right, operation_of, trace_of}
use Rattle.memory.proofs.Operations.{Ops}
use Rattle.memory.proofs.ReadRows.{both_pass, neither_passes}
use Rattle.memory.proofs.Phases.{Sinking, eight_sinking, due_ops}
use Rattle.memory.proofs.Answered.{well_formed_fault}
use Rattle.runs.proofs.StackComplete.{stack_right_depth}
use Rattle.runs.proofs.QueueDepth.{queue_depth_nonzero}

-- where every operation fits, they do not sink
fitting_afloat :
    (q : ℕ) (m : Memory) (values : List Content) (ops : List Row) → Prime q → length ops < q → Ops m ops
    → all_fit (start m values) (map (operation_of m) ops) ≡ true
    → sunk q m ops ≡ false
unfolding sunk start
fitting_afloat q Ram values ops prime room due fit = refl
fitting_afloat q Rom values ops prime room due fit = refl
fitting_afloat q Set values ops prime room due fit = refl
fitting_afloat q Stack values ops prime room due fit = le-ltb (raised ops) (lowered ops) (stack_right_depth ops due fit)
fitting_afloat q Queue values ops prime room due fit =
    ne_eqb (depth_product q 0 0 ops) 0 (queue_depth_nonzero q ops prime due room fit)

-- only a stack or a queue sinks, which has no init rows
sinks_without_inits : (q : ℕ) (m : Memory) (n : ℕ) (rows : List Row) → sized m n ≡ true → sunk q m rows ≡ true → n ≡ 0
unfolding sized sunk
sinks_without_inits q Ram n rows fine sinks = absurd (false≢true sinks)
sinks_without_inits q Rom n rows fine sinks = absurd (false≢true sinks)
sinks_without_inits q Set n rows fine sinks = absurd (false≢true sinks)
sinks_without_inits q Stack n rows fine sinks = eqb-true n 0 fine
sinks_without_inits q Queue n rows fine sinks = eqb-true n 0 fine

-- rows that meet 8 have a trace that is not right
eight_not_right :
    (q : ℕ) (m : Memory) (n t : ℕ) (xs : List Parsed) → Prime q → t < q → sized m n ≡ true → (first_fault q m n t [] xs).number ≡ 8
    → right (trace_of m n t (rows_of xs)) ≡ true → ⊥
unfolding right trace_of
eight_not_right q m n t xs prime room fine e fit =
    let due = due_ops m s.part (s.operating (omega (arith, none))) in
    false≢true (sym (fitting_afloat q m _ s.part prime (omega (arith, count)) due (rw operations at fit)) ∙ s.sinks)
  where
    s : Sinking q m n t [] (rows_of xs)
    s = eight_sinking q m n t [] xs e

    none : n ≡ 0
    none = sinks_without_inits q m n s.part fine s.sinks

    count : length s.part ≡ t
    count = omega (arith, s.last, none)

    operations : operation_rows n t (rows_of xs) ≡ s.part
    operations =
        ap (λ (k : ℕ). take t (drop k (rows_of xs))) none
        ∙ (ap (take t) s.split ∙ take_at s.part s.rest t count)

-- what is not malformed has a size and a count that are elements and allowed
pub well_sized : (q : ℕ) (m : Memory) (n t : ℕ) (xs : List Parsed) → malformed q m n t xs ≡ false → (all_below q (n ∷ t ∷ []) ≡ true) × (allowed m n t ≡ true)
unfolding malformed
well_sized q m n t xs e =
    let fine = all_below q (n ∷ t ∷ []) && allowed m n t in
    both_pass (all_below q (n ∷ t ∷ [])) (allowed m n t) (not-false fine (neither_passes (not fine) _ e).0)

-- and with a right trace it meets no fault
pub right_no_fault :
    (q : ℕ) (m : Memory) (n t : ℕ) (xs : List Parsed) → Prime q → t < q → malformed q m n t xs ≡ false
    → right (trace_of m n t (rows_of xs)) ≡ true → (first_fault q m n t [] xs).number ≡ 0
unfolding allowed
right_no_fault q m n t xs prime room good fit =
    let size = (both_pass (sized m n) (leb t limit) (well_sized q m n t xs good).1).0 in
    elim (well_formed_fault q m n t xs good) [
      | inl none ↦ none
      | inr eight ↦ absurd (eight_not_right q m n t xs prime room size eight fit)
    ]
