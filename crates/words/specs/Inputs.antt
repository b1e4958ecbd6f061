-- The words of input row k in a slice, 4 words a row: op, guard, addr, value. "In the library the rows are lent slices of numbers"; a word past the end is 0.
-- Assumes nothing.
use Rattle.std.specs.Prelude.{ℕ, ◌+◌, ◌*◌, List, get_or}
use Rattle.memory.specs.Names.{op_code, op_coded}
use Rattle.runs.specs.Honest as runs
use Rattle.runs.specs.declared.Given.{Given}
use Rattle.words.specs.declared.Input.{Input}

abbrev pub op_at : List ℕ → ℕ → ℕ
op_at inputs k = get_or inputs (4 * k) 0

abbrev pub guard_at : List ℕ → ℕ → ℕ
guard_at inputs k = get_or inputs (4 * k + 1) 0

abbrev pub addr_at : List ℕ → ℕ → ℕ
addr_at inputs k = get_or inputs (4 * k + 2) 0

abbrev pub value_at : List ℕ → ℕ → ℕ
value_at inputs k = get_or inputs (4 * k + 3) 0

-- all four of them
abbrev pub words_at : List ℕ → ℕ → Input
words_at inputs k = record { op = op_at inputs k; guard = guard_at inputs k; addr = addr_at inputs k; value = value_at inputs k }

-- the input row that four words stand for
abbrev pub input_of : Input → runs.Input
input_of row = record { op = op_coded row.op; guard = row.guard; addr = row.addr; value = row.value }

-- input row k
unfoldable pub input_at : List ℕ → ℕ → runs.Input
input_at inputs k = input_of (words_at inputs k)

-- the words of an input row
abbrev pub words_of : Given → Input
words_of g = record { op = op_code g.op; guard = g.guard; addr = g.addr; value = g.value }
