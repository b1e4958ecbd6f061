-- Rows in the output's words: 7 words a row.
-- Assumes nothing.
use Rattle.std.specs.Prelude.{ℕ, ◌+◌, List, ◌++◌, length, take, drop}
use Rattle.memory.specs.declared.Row.{Row}
use Rattle.runs.specs.Filler.{row_numbers}

-- the output with rows written from word a on
unfoldable pub laid : List ℕ → ℕ → List Row → List ℕ
laid out a rows = take a out ++ (row_numbers rows ++ drop (a + length (row_numbers rows)) out)
