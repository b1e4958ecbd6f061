-- The counters of document 01's rows, by the last row of a list: what one more row adds to the executed counts, the depth product, the inputs and the
-- multiplications; and bounds on them by the number of rows.
-- Assumes nothing.
use Prim.Native.Nat.{ℕ, suc, ◌+◌, ◌*◌, ◌%◌, ◌≤◌}
use native.Mathlib.Nat.{mul_comm, mul_assoc}
use native.Mathlib.Omega.{arith}
use mathlib.Core.Path.{◌≡◌, refl, sym, ◌∙◌, ap, ap₂}
use mathlib.Core.List.{List, [], ◌∷◌, ◌++◌}
use lib.ListN.{length, length-append}
use Rattle.algebra.specs.Modulo.{times}
use Rattle.algebra.proofs.Modulo.{same_refl, same_mod, times_same}
use Rattle.algebra.specs.Sum.{bit}
use Rattle.memory.specs.declared.Memory.{Memory}
use Rattle.memory.specs.declared.Memory.TheVariants.{Ram, Rom, Set, Stack, Queue}
use Rattle.memory.specs.declared.Op.{Op}
use Rattle.memory.specs.declared.Op.TheVariants.{Init, Access, Look, Member, Push, Pop, Enqueue, Dequeue, End, Range, Other}
use Rattle.memory.specs.declared.Row.{Row}
use Rattle.memory.specs.Rows.{raise_by, lower_by, raised, lowered, depth_factor, depth_product, columns, used}
use Rattle.memory.specs.Gates.{row_inputs, row_mults, costs, row_costs, inputs_of, mults_of}

-- one more row at the end of a list
pub length_snoc : (rows : List Row) (row : Row) → length (rows ++ row ∷ []) ≡ suc (length rows)
length_snoc rows row = length-append rows (row ∷ []) ∙ omega arith

-- a count that adds up what the rows bring
record Counts (f : List Row → ℕ) (w : Row → ℕ) : Type 0 where
  nothing : f [] ≡ 0
  first : (row : Row) (rows : List Row) → f (row ∷ rows) ≡ w row + f rows

count_snoc : (f : List Row → ℕ) (w : Row → ℕ) → Counts f w → (rows : List Row) (row : Row) → f (rows ++ row ∷ []) ≡ f rows + w row
count_snoc f w c [] row = omega (arith, c.first row [], c.nothing)
count_snoc f w c (x ∷ rows) row = omega (arith, c.first x (rows ++ row ∷ []), c.first x rows, count_snoc f w c rows row)

count_bound : (f : List Row → ℕ) (w : Row → ℕ) (k : ℕ) → Counts f w → ((row : Row) → w row ≤ k) → (rows : List Row) → f rows ≤ k * length rows
count_bound f w k c le [] = omega (arith, c.nothing)
count_bound f w k c le (row ∷ rows) = omega (arith, c.first row rows, le row, count_bound f w k c le rows)

pub raised_snoc : (rows : List Row) (row : Row) → raised (rows ++ row ∷ []) ≡ raised rows + raise_by row.op row.guard
unfolding raised
raised_snoc = count_snoc raised (λ row. raise_by row.op row.guard) (record { nothing = refl; first = λ row rows. refl })

pub lowered_snoc : (rows : List Row) (row : Row) → lowered (rows ++ row ∷ []) ≡ lowered rows + lower_by row.op row.guard
unfolding lowered
lowered_snoc = count_snoc lowered (λ row. lower_by row.op row.guard) (record { nothing = refl; first = λ row rows. refl })

counts_inputs : (m : Memory) → Counts (inputs_of m) (λ row. row_inputs m row.op)
unfolding inputs_of
counts_inputs m = record { nothing = refl; first = λ row rows. refl }

counts_mults : (m : Memory) → Counts (mults_of m) (λ row. row_mults m row.op)
unfolding mults_of
counts_mults m = record { nothing = refl; first = λ row rows. refl }

pub inputs_snoc : (m : Memory) (rows : List Row) (row : Row) → inputs_of m (rows ++ row ∷ []) ≡ inputs_of m rows + row_inputs m row.op
inputs_snoc m = count_snoc (inputs_of m) (λ row. row_inputs m row.op) (counts_inputs m)

pub mults_snoc : (m : Memory) (rows : List Row) (row : Row) → mults_of m (rows ++ row ∷ []) ≡ mults_of m rows + row_mults m row.op
mults_snoc m = count_snoc (mults_of m) (λ row. row_mults m row.op) (counts_mults m)

-- products modulo q: the order and the brackets do not matter
pub times_comm : (q x y : ℕ) → times q x y ≡ times q y x
unfolding times
times_comm q x y = ap (λ (k : ℕ). k % q) (mul_comm x y)

pub times_assoc : (q x y z : ℕ) → times q (times q x y) z ≡ times q x (times q y z)
unfolding times
times_assoc q x y z =
    times_same (same_mod q (x * y)) same_refl
    ∙ (ap (λ (k : ℕ). k % q) (mul_assoc x y z) ∙ sym (times_same same_refl (same_mod q (y * z))))

pub depth_snoc : (q up down : ℕ) (rows : List Row) (row : Row)
    → depth_product q up down (rows ++ row ∷ [])
    ≡ times q (depth_product q up down rows) (depth_factor q (up + raised rows) (down + lowered rows) row)
unfolding depth_product raised lowered
depth_snoc q up down [] row =
    times_comm q _ 1 ∙ ap₂ (λ (u d : ℕ). times q 1 (depth_factor q u d row)) (omega arith) (omega arith)
depth_snoc q up down (x ∷ rows) row =
    ap (λ (k : ℕ). times q (depth_factor q up down x) k) (depth_snoc q (up + raise_by x.op x.guard) (down + lower_by x.op x.guard) rows row)
    ∙ (sym (times_assoc q _ _ _)
    ∙ ap₂ (λ (u d : ℕ). times q (depth_product q up down (x ∷ rows)) (depth_factor q u d row)) (omega arith) (omega arith))

-- a row brings at most 3 inputs and 5 multiplications
row_bound : (m : Memory) (o : Op) → (row_inputs m o ≤ 3) × (row_mults m o ≤ 5)
unfolding row_inputs used columns bit row_mults row_costs costs
row_bound m Init = omega arith
row_bound m Access = omega arith
row_bound m Look = omega arith
row_bound m Member = omega arith
row_bound m Push = omega arith
row_bound m Pop = omega arith
row_bound m Enqueue = omega arith
row_bound m Dequeue = omega arith
row_bound Ram End = omega arith
row_bound Rom End = omega arith
row_bound Set End = omega arith
row_bound Stack End = omega arith
row_bound Queue End = omega arith
row_bound m Range = omega arith
row_bound m Other = omega arith

pub inputs_bound : (m : Memory) (rows : List Row) → inputs_of m rows ≤ 3 * length rows
inputs_bound m = count_bound (inputs_of m) (λ row. row_inputs m row.op) 3 (counts_inputs m) (λ row. (row_bound m row.op).0)

pub mults_bound : (m : Memory) (rows : List Row) → mults_of m rows ≤ 5 * length rows
mults_bound m = count_bound (mults_of m) (λ row. row_mults m row.op) 5 (counts_mults m) (λ row. (row_bound m row.op).1)
