-- The end of input, with and without the bytes of a line.
-- Assumes nothing.
use Prim.Native.Nat.{ℕ}
use mathlib.Core.Path.{◌≡◌, refl, sym, ap}
use mathlib.Core.Bool.{false}
use mathlib.Core.List.{List}
use lib.ListN.{length}
use Rattle.memory.specs.declared.Stand.{Stand}
use borrow.Author.Tests.{ne_eqb}
use Rattle.memory.specs.Step.{end_of, report_of}
use Rattle.memory.specs.Pieces.{piece, end_in}
use Rattle.memory.specs.Stream.{line_of, end_report, finish_of}
use Rattle.pieces.proofs.Calls.{last_none, last_some}

-- the end of input where nothing of a line is kept, and after the bytes of a line
module _ (q : ℕ) (v : Stand) where
  pub finish_none : (rest : List ℕ) → length rest ≡ 0 → finish_of q (piece v rest) ≡ end_report v
  unfolding finish_of end_in piece
  finish_none rest e = ap end_report (sym (last_none (line_of q) v rest e))

  pub finish_line : (rest : List ℕ) → (length rest ≡ 0 → ⊥) → finish_of q (piece v rest) ≡ end_report (line_of q v (record { text = rest; ended = false }))
  unfolding finish_of end_in piece
  finish_line rest e = ap end_report (sym (last_some (line_of q) v rest e))

-- where the lines end among the rows
pub end_rows_lem : (v : Stand) → (v.place ≡ 1 → ⊥) → (v.place ≡ 2 → ⊥) → (v.place ≡ 3 → ⊥) → end_report v ≡ report_of (end_of v.state)
unfolding end_report
end_rows_lem v one two three = rw (ne_eqb v.place 1 one, ne_eqb v.place 2 two, ne_eqb v.place 3 three) refl
