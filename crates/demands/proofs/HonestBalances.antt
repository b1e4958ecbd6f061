-- The honest prover's rows balance: where the filler refuses nothing, the lists of its rows hold
-- the same records equally often and hash the same elements, so the range and the memory balance at
-- every challenge. So rows of a right trace whose advice is the filler's are accepted.
-- Assumes nothing.
use Prim.Native.Nat.{ℕ, ◌+◌, ◌<◌}
use native.Mathlib.Omega.{arith}
use mathlib.Core.Path.{◌≡◌, refl, sym, ◌∙◌, ap, ap₂, subst}
use mathlib.Core.Bool.{true, false, ◌&&◌}
use mathlib.Core.List.{List, [], ◌∷◌, map}
use lib.Dec.{ltb}
use lib.ListN.{length, take, drop, length-map}
use borrow.Author.Tests.{eq-eqb}
use Rattle.algebra.specs.Prime.{Prime}
use Rattle.algebra.specs.Multiset.{EquallyOften}
use Rattle.algebra.specs.Hash.{hash}
use Rattle.memory.specs.declared.Memory.{Memory}
use Rattle.memory.specs.declared.Memory.TheVariants.{Ram, Rom, Set, Stack, Queue}
use Rattle.memory.specs.declared.Phase.TheVariants.{Operating}
use Rattle.memory.specs.declared.Row.{Row}
use Rattle.memory.specs.Faults.{Parsed}
use Rattle.memory.specs.declared.Challenge.{Challenge}
use Rattle.memory.specs.Bytes.{all_below}
use Rattle.memory.specs.Rows.{allowed}
use Rattle.memory.specs.Equations.{Lists, lists_of, shuffle_lists, ranged_lists, file_lists, range_balances, memory_balances}
use Rattle.memory.specs.File.{rows_of, values_fault}
use Rattle.runs.specs.Plain.{start, right, trace_of}
use Rattle.runs.specs.Honest.{Input, input_of, bare, filled_rows, possible}
use Rattle.memory.specs.Bound.{elements, accepts, malformed}
use Rattle.runs.specs.Advised.{Advised}
use Rattle.memory.specs.Statements.{Holds}
use Rattle.runs.specs.Filler.{rows_fault}
use Rattle.runs.proofs.HonestLookups.{rom_complete, set_complete}
use Rattle.runs.proofs.RamComplete.{ram_complete, ram_range_complete}
use Rattle.runs.proofs.StackComplete.{stack_balance, stack_range}
use Rattle.runs.proofs.QueueComplete.{queue_balance}
use Rattle.demands.proofs.Balance.{often_balances}
use Rattle.memory.proofs.ReadRows.{both_pass, SingleRows, below_single}
use Rattle.memory.proofs.Fold.{accepts_exactly_when}
use Rattle.memory.proofs.Phases.{no_fault_below}
use Rattle.demands.proofs.Advice.{FilledRows, advised_rows, DueInputs, Unrefused, no_refusal, values_of}
use Rattle.demands.proofs.FilledBelow.{filled_below}
use Rattle.demands.proofs.HonestRows.{honest_ops, honest_ends, honest_ranges, due_inputs, filled_lists}
use Rattle.demands.proofs.RightTrace.{well_sized, right_no_fault}

-- lists whose records are equally often on both sides of each shuffle, and whose hashed elements are the same
pub record Balancing (l : Lists) : Type 0 where
  pub memory : EquallyOften l.written l.read
  pub range : EquallyOften l.supplied l.looked
  pub elements : l.enqueued ≡ l.dequeued

-- of no records
none_often : {A : Type 0} → EquallyOften {A = A} [] []
none_often weight = refl

-- the lists of the honest rows of each memory
honest_balancing : (q : ℕ) (m : Memory) (t : ℕ) (inits ops : List Input) → t + 1 < q → length ops ≡ t → DueInputs q m Operating ops
    → possible m (start m (values_of inits)) ops ≡ true
    → Balancing (lists_of q m t (map bare inits) (honest_ops m (values_of inits) ops) (honest_ends m (values_of inits) ops) (honest_ranges m t (values_of inits) ops))
unfolding lists_of shuffle_lists ranged_lists honest_ops honest_ends honest_ranges start
honest_balancing q Ram t inits ops room count due can = record { memory = ram_complete inits ops can; range = ram_range_complete q t (values_of inits) ops count (omega arith); elements = refl }
honest_balancing q Rom t inits ops room count due can = record { memory = rom_complete q inits ops can (omega arith); range = none_often; elements = refl }
honest_balancing q Set t inits ops room count due can = record { memory = set_complete q inits ops can (omega arith); range = none_often; elements = refl }
honest_balancing q Stack t inits ops room count due can =
    let pushes = due_inputs q Stack ops due in
    record { memory = stack_balance q t ops room count pushes can; range = stack_range q t ops room count pushes can; elements = refl }
honest_balancing q Queue t inits ops room count due can =
    record { memory = none_often; range = none_often; elements = queue_balance ops (due_inputs q Queue ops due) can }

-- such lists balance at every challenge
balancing_balances : (q : ℕ) (ch : Challenge) (l : Lists) → Balancing l → (range_balances q ch l ≡ true) × (memory_balances q ch l ≡ true)
unfolding range_balances memory_balances
balancing_balances q ch l b = (
  often_balances q ch l.supplied l.looked b.range,
  ap₂ ◌&&◌ (often_balances q ch l.written l.read b.memory) (eq-eqb _ _ (ap (hash q ch.r) b.elements)),
)

-- the rows of the honest prover's rules, where the filler refuses nothing
pub filled_balancing : (q : ℕ) (m : Memory) (n t : ℕ) (inits ops : List Input) → Prime q → t + 1 < q → length inits ≡ n → length ops ≡ t
    → Unrefused q m (values_of inits) inits ops
    → Balancing (file_lists q m n t (filled_rows m t inits ops))
filled_balancing q m n t inits ops prime room size count u =
    subst Balancing (sym (filled_lists q m n t inits ops prime room size count u)) (honest_balancing q m t inits ops room count u.operating u.can)

-- so both shuffles balance
pub filled_balances : (q : ℕ) (m : Memory) (n t : ℕ) (inits ops : List Input) (ch : Challenge) → Prime q → t + 1 < q → length inits ≡ n → length ops ≡ t
    → Unrefused q m (values_of inits) inits ops
    → (range_balances q ch (file_lists q m n t (filled_rows m t inits ops)) ≡ true) × (memory_balances q ch (file_lists q m n t (filled_rows m t inits ops)) ≡ true)
filled_balances q m n t inits ops ch prime room size count u =
    balancing_balances q ch (file_lists q m n t (filled_rows m t inits ops)) (filled_balancing q m n t inits ops prime room size count u)

-- so the lists of rows whose advice is the filler's do
advice_balancing : (q : ℕ) (m : Memory) (n t : ℕ) (rows : List Row) → Prime q → t + 1 < q → FilledRows q m n t rows → Balancing (file_lists q m n t rows)
advice_balancing q m n t rows prime room f =
    subst (λ (ys : List Row). Balancing (file_lists q m n t ys)) (sym f.filled)
    (filled_balancing q m n t inits ops prime room (length-map (take n rows) input_of ∙ f.size) (length-map (take t (drop n rows)) input_of ∙ f.count)
    (no_refusal q m (values_of inits) 1 inits ops f.unrefused))
  where
    inits : List Input
    inits = map input_of (take n rows)

    ops : List Input
    ops = map input_of (take t (drop n rows))

-- size, count and challenge are elements, and size and count are allowed
pub values_pass : (q : ℕ) (m : Memory) (n t : ℕ) (ch : Challenge) → all_below q (n ∷ t ∷ []) ≡ true → allowed m n t ≡ true
    → elements q ch ≡ true
    → values_fault q m n t ch ≡ 0
unfolding values_fault all_below
values_pass q m n t ch below fit inside =
    let size = both_pass (ltb n q) (ltb t q && true) below in
    let count = both_pass (ltb t q) true size.1 in
    rw (size.0, count.0, inside, fit)

-- rows of a right trace whose advice is the filler's meet the equations at every challenge: they
-- meet no fault, so their contents are nothing but their numbers, and so are the filler's
pub advised_holds : (q : ℕ) (m : Memory) (n t : ℕ) (xs : List Parsed) → Prime q → t + 1 < q
    → malformed q m n t xs ≡ false → right (trace_of m n t (rows_of xs)) ≡ true → Advised q m n t (rows_of xs)
    → (ch : Challenge) → elements q ch ≡ true → Holds q m n t ch xs
advised_holds q m n t xs prime room formed fit a ch inside =
    let sizes = well_sized q m n t xs formed in
    let none = right_no_fault q m n t xs prime (omega arith) formed fit in
    let single = below_single q (rows_of xs) (no_fault_below q m n t [] xs none) in
    let filled = advised_rows q m n t (rows_of xs) single honest_single a in
    let balances = balancing_balances q ch (file_lists q m n t (rows_of xs)) (advice_balancing q m n t (rows_of xs) prime room filled) in
    record {
      values = values_pass q m n t ch sizes.0 sizes.1 inside;
      rows = none;
      range = balances.0;
      memory = balances.1;
    }
  where
    honest_single : (inits ops : List Input) → length ops ≡ t → (rows_fault q m (values_of inits) 1 inits ops).number ≡ 0 → SingleRows (filled_rows m t inits ops)
    honest_single inits ops count e =
        below_single q (filled_rows m t inits ops) (filled_below q m t inits ops room count (no_refusal q m (values_of inits) 1 inits ops e))

-- the clause of demand 3 on a right trace whose advice is the filler's
pub honest_clause : (q : ℕ) (m : Memory) (n t : ℕ) (xs : List Parsed) → Prime q → t + 1 < q
    → malformed q m n t xs ≡ false → right (trace_of m n t (rows_of xs)) ≡ true → Advised q m n t (rows_of xs)
    → (ch : Challenge) → elements q ch ≡ true → accepts q m n t xs ch ≡ true
honest_clause q m n t xs prime room formed fit a ch inside =
    (accepts_exactly_when q m n t ch xs (omega arith)).1 (advised_holds q m n t xs prime room formed fit a ch inside)
