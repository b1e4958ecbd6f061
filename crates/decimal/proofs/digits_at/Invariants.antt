-- `decimal::digits_at` meets its contract. The loop's invariant: the digits that are left, after the number of those before them, read as all the digits do.
-- Assumes nothing.
use Rattle.std.proofs.Common.{◌-◌}
use Rattle.decimal.proofs.Digits.{Running}
use Rattle.decimal.proofs.digits_at.Given as goal

abbrev pub invariant-loop-i : goal.invariant-loop-i
invariant-loop-i l = Running l.text l.from l.stop l.value l.i

abbrev pub decreases-loop-i : goal.decreases-loop-i
decreases-loop-i l = l.stop - l.i
