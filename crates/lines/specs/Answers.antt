-- What the answer to a value line stands for.
-- Assumes nothing.
use Rattle.std.specs.Prelude.{Result, Ok, Err}
use Rattle.memory.specs.declared.Values.{Values}
use Rattle.memory.specs.declared.faults.Fault.{Fault}
use Rattle.memory.specs.Faults.{fault_number}
use Rattle.memory.specs.File.{Opening, opens, shut}

-- what a value line reads as
unfoldable pub opening_of : Result Values Fault → Opening
opening_of (Ok v) = opens v.memory v.size v.count v.challenge
opening_of (Err f) = shut (fault_number f)
