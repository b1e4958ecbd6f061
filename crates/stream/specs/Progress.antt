-- What the code's answers stand for, as the definitions of a file read in pieces.
-- Assumes nothing.
use Rattle.std.specs.Prelude.{ℕ, List}
use Rattle.field.specs.declared.moduli.Modulus.{Modulus}
use Rattle.memory.specs.declared.Stand.{Stand}
use Rattle.memory.specs.Stream.{unopened}
use Rattle.pieces.specs.Calls.{Left}
use Rattle.pieces.specs.declared.Progress.{Progress}

-- the progress before the first byte
unfoldable pub begun : Modulus → Progress Stand
begun k = record { field = k; known = unopened; kept = 0 }

-- what a call leaves: its progress, and the buffer
unfoldable pub left_by : Progress Stand → List ℕ → Left Stand
left_by r buffer = record { known = r.known; kept = r.kept; buffer = buffer }
