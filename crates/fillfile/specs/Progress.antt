-- What the code's answers stand for, as the definitions of an input read in pieces.
-- Assumes nothing.
use Rattle.std.specs.Prelude.{ℕ, List}
use Rattle.field.specs.declared.moduli.Modulus.{Modulus}
use Rattle.runs.specs.declared.Intake.{Intake}
use Rattle.runs.specs.FillStream.{Gathered, gathered, untaken}
use Rattle.pieces.specs.Calls.{Left}
use Rattle.pieces.specs.declared.Progress.{Progress}

-- the progress before the first byte
unfoldable pub begun : Modulus → Progress Intake
begun k = record { field = k; known = untaken; kept = 0 }

-- what a call leaves: its progress, the words of the rows, and the buffer
unfoldable pub left_by : Progress Intake → List ℕ → List ℕ → Left Gathered
left_by r words buffer = record { known = gathered r.known words; kept = r.kept; buffer = buffer }
