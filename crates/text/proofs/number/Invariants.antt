-- `text::number` meets its contract. The invariant of its loop is `Laid`: the digits behind `first`
-- stand in the array, and `left` is still to come.
-- The measure is `first`.
-- Assumes nothing.
use Rattle.text.proofs.Digits.{Laid}
use Rattle.text.proofs.number.Given as goal

abbrev pub invariant-loop-left : goal.invariant-loop-left
invariant-loop-left l = Laid l.n l.digits l.first l.left

abbrev pub decreases-loop-left : goal.decreases-loop-left
decreases-loop-left l = l.first
