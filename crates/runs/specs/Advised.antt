-- When the advice of a list of rows is the filler's: the last sentences of section "The bound on
-- challenges" of document 01.
-- Assumes nothing.
use Rattle.std.specs.Prelude.{ℕ, ◌+◌, ◌*◌, ◌≤◌, ◌≡◌, List, map, length, take}
use Rattle.memory.specs.declared.Memory.{Memory}
use Rattle.memory.specs.declared.Row.{Row}
use Rattle.memory.specs.Rows.{row_fields}
use Rattle.runs.specs.Honest.{input_of}
use Rattle.runs.specs.Filler.{Filling, fill_of, room, input_numbers, row_numbers}
use Rattle.memory.specs.Names.{memory_code}

-- what the filler leaves for the init rows and operations of a list of rows
unfoldable pub filling_for : ℕ → Memory → ℕ → ℕ → List Row → List ℕ → List ℕ → Filling
filling_for q m n t rows output scratch = fill_of q (memory_code m) n t (input_numbers (map input_of (take (n + t) rows))) output scratch

-- "The advice is the filler's if the rows are those that the filler, given its room, writes for the same init rows and operations."
pub record Advised (q : ℕ) (m : Memory) (n t : ℕ) (rows : List Row) : Type 0 where
  pub output : List ℕ
  pub scratch : List ℕ
  pub output_room : row_fields * room n t ≤ length output
  pub scratch_room : room n t ≤ length scratch
  pub filled : (filling_for q m n t rows output scratch).answer ≡ 0
  pub counted : (filling_for q m n t rows output scratch).count ≡ length rows
  pub written : take (row_fields * length rows) (filling_for q m n t rows output scratch).output ≡ row_numbers rows
