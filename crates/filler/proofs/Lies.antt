-- A word of a cell stands for the cell.
--     lies_packed    the word that an operation packs does
--     cells_end      the words from j on give the end rows of the cells that they stand for
-- Assumes nothing.
use Prim.Native.Nat.{ℕ, suc, ◌+◌, ◌<◌}
use native.Mathlib.Omega.{arith}
use mathlib.Core.Path.{◌≡◌, refl, sym, subst}
use mathlib.Core.List.{List, [], ◌∷◌}
use lib.ListN.{length, get_or}
use Rattle.runs.specs.Honest.{Cell, cell, cell_at, end_row, ram_ends}
use Rattle.words.specs.Inputs.{value_at}
use Rattle.words.specs.Cells.{span, packed, time_in, content_in}
use Rattle.words.proofs.Packed.{time_packed, content_packed}
use Rattle.filler.specs.Ends.{cell_ends}

-- the word of cell j tells its content and its time
pub record Lies (inits ops : List ℕ) (j word : ℕ) (c : Cell) : Type 0 where
  pub content : content_in inits ops j word ≡ c.content
  pub time : time_in word ≡ c.time

pub lies_packed : (inits ops : List ℕ) (j k time : ℕ) → k + 1 < span → time < span → Lies inits ops j (packed (k + 1) time) (cell (value_at ops k) time)
unfolding cell
lies_packed inits ops j k time h l = record { content = content_packed inits ops j k time h; time = time_packed (k + 1) time l }

pub cells_end : (inits ops s : List ℕ) (j : ℕ) (cells : List Cell) → ((i : ℕ) → i < length cells → Lies inits ops (j + i) (get_or s (j + i) 0) (cell_at cells i))
    → ram_ends cells ≡ cell_ends inits ops j (length cells) s
unfolding ram_ends cell_ends cell_at
cells_end inits ops s j [] held = refl
cells_end inits ops s j (c ∷ cells) held =
    let here = subst (λ (i : ℕ). Lies inits ops i (get_or s i 0) c) start (held 0 (omega arith)) in
    λ i. end_row 0 (sym here.content i) (sym here.time i) 0
    ∷ cells_end inits ops s (suc j) cells (λ n l. subst (λ (x : ℕ). Lies inits ops x (get_or s x 0) (cell_at cells n)) (step n) (held (suc n) (omega arith))) i
  where
    start : j + 0 ≡ j
    start = omega arith

    step : (n : ℕ) → j + suc n ≡ suc j + n
    step n = omega arith
