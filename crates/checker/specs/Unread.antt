-- The number of a line that reads as no row.
-- Assumes nothing.
use Rattle.std.specs.Prelude.{ℕ}
use Rattle.memory.specs.Faults.{Parsed}
use Rattle.std.specs.Prelude.{Ok, Err}
use Rattle.memory.specs.Rows.{unread_fault}

-- the number of a fault, and 0 of a row
unfoldable pub unread_of : Parsed → ℕ
unread_of (Ok row) = 0
unread_of (Err f) = unread_fault f
