-- The queue of document 01: where every operation fits, the depth product is not 0.
-- Assumes nothing.
use Prim.Native.Nat.{ℕ, suc, ◌+◌, ◌<◌}
use mathlib.Core.Path.{◌≡◌, sym, ◌∙◌}
use mathlib.Core.Logic.{inl, inr, ◌≢◌}
use mathlib.Core.Bool.{true, false≢true, and-eq-true_iff}
use mathlib.Core.List.{List, [], ◌∷◌, ◌++◌, map}
use native.Mathlib.Nat.{mod-lt, mod-eq_of_lt}
use native.Mathlib.Omega.{arith}
use lib.ListN.{length, length-append}
use Rattle.algebra.specs.Modulo.{minus, times}
use Rattle.algebra.specs.Prime.{Prime}
use Rattle.algebra.proofs.Euclid.{zero_product}
use Rattle.memory.specs.declared.Memory.TheVariants.{Queue}
use Rattle.memory.specs.declared.Op.TheVariants.{Enqueue, Dequeue}
use Rattle.memory.specs.declared.Row.{Row}
use Rattle.memory.specs.Content.{Content, same_content}
use Rattle.memory.specs.Names.{op_code, is_op}
use Rattle.memory.specs.Rows.{raise_by, lower_by, ops_due, depth_factor, depth_product}
use Rattle.runs.specs.Plain.{operation_of, all_fit, fits, after, holds}
use Rattle.memory.proofs.Operations.{Ops, row_at, row_cases}
use Rattle.runs.proofs.Differences.{minus_exact}

-- the product of two numbers that are not 0 modulo a prime
product_nonzero : (q x y : ℕ) → Prime q → x < q → y < q → x ≢ 0 → y ≢ 0 → times q x y ≢ 0
unfolding times
product_nonzero q x y prime lx ly nx ny e =
    elim (zero_product q x y prime e) [
      | inl z ↦ nx (sym (mod-eq_of_lt lx) ∙ z)
      | inr z ↦ ny (sym (mod-eq_of_lt ly) ∙ z)
    ]

-- the depth product is reduced
depth_product_below : (q up down : ℕ) (ops : List Row) → 1 < q → depth_product q up down ops < q
unfolding depth_product times
depth_product_below q up down [] h = h
depth_product_below q up down (row ∷ rows) h = mod-lt _ (omega arith)

-- what is to be shown of the operations from some point on
abbrev NotZero : ℕ → List Row → Type 0
NotZero q ops =
    (cells : List Content) (up down : ℕ)
    → length cells + down ≡ up
    → up + length ops < q
    → all_fit cells (map (operation_of Queue) ops) ≡ true
    → depth_product q up down ops ≢ 0

-- a factor that is not 0, before a product that is not 0
factor_nonzero :
    (q x up down : ℕ) (rows : List Row) → Prime q → x < q → x ≢ 0 → depth_product q up down rows ≢ 0
    → times q x (depth_product q up down rows) ≢ 0
factor_nonzero q x up down rows prime lx nx ny =
    product_nonzero q x (depth_product q up down rows) prime lx (depth_product_below q up down rows prime.two) nx ny

-- an executed enqueue
nonzero_enqueue : (q : ℕ) (row : Row) (rows : List Row) → Prime q → NotZero q rows → NotZero q (row_at Enqueue 1 row ∷ rows)
unfolding row_at is_op op_code raise_by lower_by depth_factor depth_product operation_of all_fit fits after
nonzero_enqueue q row rows prime rest cells up down depth room fit =
    factor_nonzero q 1 (up + 1) (down + 0) rows prime prime.two (omega arith)
    (rest (cells ++ row.value ∷ []) (up + 1) (down + 0) (omega (arith, length-append cells (row.value ∷ []))) (omega arith) fit)

-- a skipped enqueue
nonzero_skipped_enqueue : (q : ℕ) (row : Row) (rows : List Row) → Prime q → NotZero q rows → NotZero q (row_at Enqueue 0 row ∷ rows)
unfolding row_at is_op op_code raise_by lower_by depth_factor depth_product operation_of all_fit fits after
nonzero_skipped_enqueue q row rows prime rest cells up down depth room fit =
    factor_nonzero q 1 (up + 0) (down + 0) rows prime prime.two (omega arith)
    (rest cells (up + 0) (down + 0) (omega arith) (omega arith) fit)

-- a dequeue that fits, of a queue that holds an element: its factor is the number of elements
nonzero_dequeue : (q : ℕ) (row : Row) (rows : List Row) → Prime q → NotZero q rows → NotZero q (row_at Dequeue 1 row ∷ rows)
unfolding row_at is_op op_code raise_by lower_by depth_factor depth_product operation_of all_fit fits after holds
nonzero_dequeue q row rows prime rest [] up down depth room fit = absurd (false≢true fit)
nonzero_dequeue q row rows prime rest (c ∷ cells) up down depth room fit =
    let factor = minus_exact q (up + 1) (down + 1) (suc (length cells)) (omega arith) (omega arith) in
    factor_nonzero q (minus q (up + 1) (down + 1)) (up + 0) (down + 1) rows prime (omega arith) (omega arith)
    (rest cells (up + 0) (down + 1) (omega arith) (omega arith) ((and-eq-true_iff (same_content row.old c) _).0 fit).1)

-- a skipped dequeue: its factor is one more than the number of elements
nonzero_skipped_dequeue : (q : ℕ) (row : Row) (rows : List Row) → Prime q → NotZero q rows → NotZero q (row_at Dequeue 0 row ∷ rows)
unfolding row_at is_op op_code raise_by lower_by depth_factor depth_product operation_of all_fit fits after
nonzero_skipped_dequeue q row rows prime rest cells up down depth room fit =
    let factor = minus_exact q (up + 1) (down + 0) (suc (length cells)) (omega arith) (omega arith) in
    factor_nonzero q (minus q (up + 1) (down + 0)) (up + 0) (down + 0) rows prime (omega arith) (omega arith)
    (rest cells (up + 0) (down + 0) (omega arith) (omega arith) fit)

-- all operations from some point on
nonzero_from : (q : ℕ) (ops : List Row) → Ops Queue ops → Prime q → NotZero q ops
unfolding depth_product ops_due
nonzero_from q [] due prime = λ cells up down depth room fit. omega arith
nonzero_from q (row ∷ rows) due prime =
    let rest : NotZero q rows = nonzero_from q rows due.2 prime in
    row_cases (λ (r : Row). NotZero q (r ∷ rows)) Enqueue Dequeue row
    (nonzero_enqueue q row rows prime rest)
    (nonzero_skipped_enqueue q row rows prime rest)
    (nonzero_dequeue q row rows prime rest)
    (nonzero_skipped_dequeue q row rows prime rest)
    due.0
    due.1

-- where every operation fits, the depth product is not 0
pub queue_depth_nonzero :
    (q : ℕ) (ops : List Row)
    → Prime q
    → Ops Queue ops
    → length ops < q
    → all_fit [] (map (operation_of Queue) ops) ≡ true
    → depth_product q 0 0 ops ≢ 0
queue_depth_nonzero q ops prime due room fit = nonzero_from q ops due prime [] 0 0 (omega arith) (omega arith) fit
