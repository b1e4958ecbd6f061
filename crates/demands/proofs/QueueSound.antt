-- The queue of document 01: where the elements enqueued are those dequeued and then any others, in the same order, and no depth factor
-- is 0, every operation fits.
-- Assumes nothing.
use Prim.Native.Nat.{ℕ, ◌+◌, ◌*◌, ◌%◌, ◌<◌}
use mathlib.Core.Path.{◌≡◌, refl, sym, ◌∙◌, ap}
use mathlib.Core.Logic.{◌≢◌}
use mathlib.Core.Bool.{true}
use mathlib.Core.List.{List, [], ◌∷◌, ◌++◌, map, append_assoc, head-eq_of_cons-eq, tail-eq_of_cons-eq}
use native.Mathlib.Nat.{zero-mod, zero-mul, mul-zero}
use native.Mathlib.Omega.{arith}
use lib.ListN.{length, length-append}
use Rattle.algebra.specs.Modulo.{minus, times}
use Rattle.memory.specs.declared.Memory.TheVariants.{Queue}
use Rattle.memory.specs.declared.Op.TheVariants.{Enqueue, Dequeue}
use Rattle.memory.specs.declared.Row.{Row}
use Rattle.memory.specs.Content.{Content}
use Rattle.memory.specs.Names.{op_code, is_op}
use Rattle.memory.specs.Rows.{raise_by, lower_by, ops_due, depth_factor, depth_product}
use Rattle.memory.specs.Equations.{enqueues, dequeues}
use Rattle.memory.proofs.Content.{content_same}
use Rattle.runs.specs.Plain.{operation_of, all_fit, fits, after, holds}
use Rattle.memory.proofs.Operations.{Ops, row_at, row_cases}
use Rattle.runs.proofs.Differences.{minus_exact}

-- the two halves of a product that is not 0
pub left_factor : (q x y : ℕ) → times q x y ≢ 0 → x ≢ 0
unfolding times
left_factor q x y h e = h (ap (λ (t : ℕ). (t * y) % q) e ∙ (ap (λ (t : ℕ). t % q) (zero-mul y) ∙ zero-mod q))

pub right_factor : (q x y : ℕ) → times q x y ≢ 0 → y ≢ 0
unfolding times
right_factor q x y h e = h (ap (λ (t : ℕ). (x * t) % q) e ∙ (ap (λ (t : ℕ). t % q) (mul-zero x) ∙ zero-mod q))

-- what is to be shown of the operations from some point on: `cells` are the elements in the queue, of `up` enqueued and `down` dequeued
abbrev Sound : ℕ → List Row → Type 0
Sound q ops =
    (cells ends : List Content) (up down : ℕ)
    → length cells + down ≡ up
    → cells ++ enqueues ops ≡ dequeues ops ++ ends
    → depth_product q up down ops ≢ 0
    → all_fit cells (map (operation_of Queue) ops) ≡ true

-- an executed enqueue
sound_enqueue : (q : ℕ) (row : Row) (rows : List Row) → Sound q rows → Sound q (row_at Enqueue 1 row ∷ rows)
unfolding row_at is_op op_code raise_by lower_by enqueues dequeues depth_factor depth_product operation_of all_fit fits after
sound_enqueue q row rows rest cells ends up down depth equal product =
    rest (cells ++ row.value ∷ []) ends (up + 1) (down + 0)
    (omega (arith, length-append cells (row.value ∷ [])))
    (append_assoc cells (row.value ∷ []) (enqueues rows) ∙ equal)
    (right_factor q 1 (depth_product q (up + 1) (down + 0) rows) product)

-- an executed dequeue: of an empty queue its depth factor is 0
sound_dequeue : (q : ℕ) (row : Row) (rows : List Row) → 0 < q → Sound q rows → Sound q (row_at Dequeue 1 row ∷ rows)
unfolding row_at is_op op_code raise_by lower_by enqueues dequeues depth_factor depth_product operation_of all_fit fits after holds
sound_dequeue q row rows positive rest [] ends up down depth equal product =
    absurd
    (left_factor q (minus q (up + 1) (down + 1)) (depth_product q (up + 0) (down + 1) rows) product
    (minus_exact q (up + 1) (down + 1) 0 (omega arith) positive))
sound_dequeue q row rows positive rest (c ∷ cells) ends up down depth equal product =
    rw (content_same row.old c (sym (head-eq_of_cons-eq equal)))
    (rest cells ends (up + 0) (down + 1) (omega arith) (tail-eq_of_cons-eq equal)
    (right_factor q (minus q (up + 1) (down + 1)) (depth_product q (up + 0) (down + 1) rows) product))

-- a skipped enqueue
sound_skipped_enqueue : (q : ℕ) (row : Row) (rows : List Row) → Sound q rows → Sound q (row_at Enqueue 0 row ∷ rows)
unfolding row_at is_op op_code raise_by lower_by enqueues dequeues depth_factor depth_product operation_of all_fit fits after
sound_skipped_enqueue q row rows rest cells ends up down depth equal product =
    rest cells ends (up + 0) (down + 0) (omega arith) equal
    (right_factor q 1 (depth_product q (up + 0) (down + 0) rows) product)

-- a skipped dequeue
sound_skipped_dequeue : (q : ℕ) (row : Row) (rows : List Row) → Sound q rows → Sound q (row_at Dequeue 0 row ∷ rows)
unfolding row_at is_op op_code raise_by lower_by enqueues dequeues depth_factor depth_product operation_of all_fit fits after
sound_skipped_dequeue q row rows rest cells ends up down depth equal product =
    rest cells ends (up + 0) (down + 0) (omega arith) equal
    (right_factor q (minus q (up + 1) (down + 0)) (depth_product q (up + 0) (down + 0) rows) product)

-- all operations from some point on
sound_from : (q : ℕ) (ops : List Row) → Ops Queue ops → 0 < q → Sound q ops
unfolding all_fit ops_due
sound_from q [] due positive = λ cells ends up down depth equal product. refl
sound_from q (row ∷ rows) due positive =
    let rest : Sound q rows = sound_from q rows due.2 positive in
    row_cases (λ (r : Row). Sound q (r ∷ rows)) Enqueue Dequeue row
    (sound_enqueue q row rows rest)
    (sound_skipped_enqueue q row rows rest)
    (sound_dequeue q row rows positive rest)
    (sound_skipped_dequeue q row rows rest)
    due.0
    due.1

-- where the elements enqueued are those dequeued and then any others, and the depth product is not 0, every operation fits
pub queue_sound :
    (q : ℕ) (ops : List Row) (ends : List Content)
    → Ops Queue ops
    → length ops < q
    → enqueues ops ≡ dequeues ops ++ ends
    → depth_product q 0 0 ops ≢ 0
    → all_fit [] (map (operation_of Queue) ops) ≡ true
queue_sound q ops ends due room equal product = sound_from q ops due (omega arith) [] ends 0 0 (omega arith) equal product
