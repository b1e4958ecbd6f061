-- What is not refused on sight: of rows that have their form and whose numbers are elements, op and guard alone decide a line's fault.
-- Assumes nothing.
use Prim.Native.Nat.{ℕ, ◌+◌}
use mathlib.Core.Path.{◌≡◌, refl, ap, ap₂}
use mathlib.Core.List.{List, [], ◌∷◌, ◌++◌}
use lib.Dec.{eqb, ltb}
use Rattle.algebra.specs.Modulo.{times}
use Rattle.memory.specs.declared.Memory.{Memory}
use Rattle.memory.specs.declared.Memory.TheVariants.{Ram, Rom, Set, Stack, Queue}
use Rattle.memory.specs.declared.Row.{Row}
use Rattle.memory.specs.Rows.{raise_by, lower_by, raised, lowered, depth_factor, depth_product, sunk, row_fault, parsed_fault, line_fault}
use Rattle.memory.specs.Statements.{FaultByForm}

-- the depth and the queue's product after two rows with the same op and guard
module _ (x y : Row) (op : x.op ≡ y.op) (guard : x.guard ≡ y.guard) where
  same_raised : (rows : List Row) → raised (rows ++ x ∷ []) ≡ raised (rows ++ y ∷ [])
  unfolding raised
  same_raised [] = rw (op, guard)
  same_raised (row ∷ rows) = ap (λ (k : ℕ). raise_by row.op row.guard + k) (same_raised rows)

  same_lowered : (rows : List Row) → lowered (rows ++ x ∷ []) ≡ lowered (rows ++ y ∷ [])
  unfolding lowered
  same_lowered [] = rw (op, guard)
  same_lowered (row ∷ rows) = ap (λ (k : ℕ). lower_by row.op row.guard + k) (same_lowered rows)

  same_product : (q up down : ℕ) (rows : List Row) → depth_product q up down (rows ++ x ∷ []) ≡ depth_product q up down (rows ++ y ∷ [])
  unfolding depth_product depth_factor
  same_product q up down [] = rw (op, guard)
  same_product q up down (row ∷ rows) =
      ap (times q (depth_factor q up down row)) (same_product q (up + raise_by row.op row.guard) (down + lower_by row.op row.guard) rows)

  same_sunk : (q : ℕ) (m : Memory) (rows : List Row) → sunk q m (rows ++ x ∷ []) ≡ sunk q m (rows ++ y ∷ [])
  unfolding sunk
  same_sunk q Ram rows = refl
  same_sunk q Rom rows = refl
  same_sunk q Set rows = refl
  same_sunk q Stack rows = ap₂ ltb (same_raised rows) (same_lowered rows)
  same_sunk q Queue rows = ap (λ (k : ℕ). eqb k 0) (same_product q 0 0 rows)

pub fault_by_form : FaultByForm
unfolding line_fault parsed_fault row_fault
fault_by_form q m n t rows x y op guard hx hy = rw (hx.0, hx.1, hy.0, hy.1, same_sunk x y op guard q m rows, op)
