-- The columns of a line, and the rows in a slice of output rows.
-- Assumes nothing.
use Rattle.std.specs.Prelude.{ℕ, ◌+◌, ◌*◌, List, [], ◌∷◌, ◌++◌, get_or}
use Rattle.memory.specs.declared.Row.{Row}
use Rattle.memory.specs.Bytes.{comma, feed}
use Rattle.memory.specs.Names.{op_coded}
use Rattle.memory.specs.Print.{number_text}

-- a number with a comma before it
unfoldable pub column_text : ℕ → List ℕ
column_text n = comma ∷ number_text n

-- numbers with a comma before each, and a line feed
unfoldable pub columns_text : List ℕ → List ℕ
columns_text [] = feed ∷ []
columns_text (n ∷ ns) = column_text n ++ columns_text ns

-- the number in a column of the row at place k of a slice of output rows, 7 numbers a row; a number
-- that is not there counts as 0
unfoldable pub cell_in : List ℕ → ℕ → ℕ → ℕ
cell_in rows k column = get_or rows (7 * k + column) 0

-- the row at place k of a slice of output rows
unfoldable pub row_in : List ℕ → ℕ → Row
row_in rows k = record {
  op = op_coded (cell_in rows k 0);
  guard = cell_in rows k 1;
  addr = cell_in rows k 2;
  value = cell_in rows k 3;
  old = cell_in rows k 4;
  time = cell_in rows k 5;
  version = cell_in rows k 6;
}
