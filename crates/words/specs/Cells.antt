-- A word of a cell packs where its content comes from and its time, so that no content stands in
-- it. Source 0 is the cell's init row, and source k + 1 is operation k.
-- Assumes nothing.
use Rattle.std.specs.Prelude.{ℕ, ◌+◌, ◌-◌, ◌*◌, ◌/◌, ◌%◌, cond, List, eqb}
use Rattle.words.specs.Inputs.{value_at}
use Rattle.words.specs.declared.cells.Cell.{Cell}

-- a source and a time are below this: each is at most 65,536
unfoldable pub span : ℕ
span = 131072

-- the word of a source and a time
unfoldable pub packed : ℕ → ℕ → ℕ
packed source time = source % span * span + time % span

-- the source in a word, and the time
unfoldable pub source_in : ℕ → ℕ
source_in word = word / span

unfoldable pub time_in : ℕ → ℕ
time_in word = word % span

abbrev pub cell_in : ℕ → Cell
cell_in word = record { source = source_in word; time = time_in word }

-- the content of cell j, by its word, in the slices of init rows and of operations
unfoldable pub content_in : List ℕ → List ℕ → ℕ → ℕ → ℕ
content_in inits ops j word = cond (eqb (source_in word) 0) (value_at inits j) (value_at ops (source_in word - 1))
