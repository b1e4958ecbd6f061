-- A slice that holds the numbers of rows holds those rows: what `filled_row` prints of the filler's
-- output.
-- Assumes nothing.
use mathlib.Core.Path.{◌≡◌, ap, ◌∙◌}
use mathlib.Core.List.{List, [], ◌∷◌, ◌++◌}
use Prim.Native.Nat.{ℕ, zero, suc, ◌+◌, ◌*◌, ◌<◌}
use native.Mathlib.Omega.{arith}
use lib.ListN.{length, get_or}
use Rattle.memory.specs.declared.Row.{Row}
use Rattle.memory.specs.Names.{op_code}
use Rattle.memory.proofs.Operations.{op_coded_lem}
use Rattle.runs.specs.Filler.{row_numbers}
use Rattle.print.specs.Rows.{cell_in, row_in}

-- a row later, 7 numbers on
cell_later : (o g a v d t n : ℕ) (rest : List ℕ) (k column : ℕ)
    → cell_in (o ∷ g ∷ a ∷ v ∷ d ∷ t ∷ n ∷ rest) (suc k) column ≡ cell_in rest k column
unfolding cell_in
cell_later o g a v d t n rest k column =
    let later : 7 * suc k + column ≡ suc (suc (suc (suc (suc (suc (suc (7 * k + column))))))) = omega arith in
    ap (λ (i : ℕ). get_or (o ∷ g ∷ a ∷ v ∷ d ∷ t ∷ n ∷ rest) i 0) later

row_later : (o g a v d t n : ℕ) (rest : List ℕ) (k : ℕ) → row_in (o ∷ g ∷ a ∷ v ∷ d ∷ t ∷ n ∷ rest) (suc k) ≡ row_in rest k
unfolding row_in
row_later o g a v d t n rest k = simp (cell_later o g a v d t n rest k)

-- the row at place k of the rows' numbers, whatever follows them
pub row_in_numbers : (rows : List Row) (rest : List ℕ) (k : ℕ) (other : Row) → k < length rows
    → row_in (row_numbers rows ++ rest) k ≡ get_or rows k other
unfolding row_numbers row_in cell_in
row_in_numbers [] rest k other h = absurd (omega arith)
row_in_numbers (row ∷ rows) rest zero other h = simp (op_coded_lem row.op)
row_in_numbers (row ∷ rows) rest (suc k) other h =
    row_later (op_code row.op) row.guard row.addr row.value row.old row.time row.version (row_numbers rows ++ rest) k
    ∙ row_in_numbers rows rest k other (omega arith)
