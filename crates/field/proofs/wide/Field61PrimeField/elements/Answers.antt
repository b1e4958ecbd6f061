-- `field::wide::Field61::elements` meets its contract: a constant 1 summed over the numbers below
-- 2⁶¹ − 1, and over all challenges.
-- Assumes nothing.
use mathlib.Core.Path.{sym}
use Rattle.algebra.specs.Sum.{bit, count, counts}
use Rattle.algebra.proofs.Sum.{sum_constant, sums_constant}
use Rattle.field.specs.Field.{elements_of, challenges_of}
use Rattle.field.specs.Wide.{p61}
use Rattle.field.proofs.wide.Field61PrimeField.elements.Goals as goal

pub returns : goal.returns
unfolding p61 elements_of challenges_of bit count counts
returns c = record { value = sym (sum_constant p61 1); challenges = sym (sums_constant p61 4 1) }
