-- What the answers of this crate's operations stand for.
-- Assumes nothing.
use Rattle.std.specs.Prelude.{ℕ, Result, Ok, Err, List, get_or}
use Rattle.memory.specs.declared.Op.{Op}
use Rattle.memory.specs.declared.faults.Fault.{Fault}
use Rattle.memory.specs.Faults.{fault_number}
use Rattle.runs.specs.FillFile as file
use Rattle.fill_lines.specs.declared.Job.{Job}
use Rattle.runs.specs.Given.{given_input}
use Rattle.runs.specs.declared.Given.{Given}

-- what a value line of the filling program's input reads as
unfoldable pub task_of : Result Job Fault → file.Job
task_of (Ok j) = file.job j.memory j.size j.count
task_of (Err f) = file.no_job (fault_number f)

-- what a row line of it reads as
unfoldable pub given_of : Result Given Fault → file.InputLine
given_of (Ok g) = file.sound (given_input g)
given_of (Err f) = file.faulty (fault_number f)

-- the row of an op and the numbers of a row line
unfoldable pub input_with : Op → List ℕ → file.InputLine
input_with o ns = file.sound (record { op = o; guard = get_or ns 0 0; addr = get_or ns 1 0; value = get_or ns 2 0 })
