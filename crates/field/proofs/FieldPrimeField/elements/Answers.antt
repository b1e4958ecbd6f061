-- `field::Field::elements` meets its contract: a constant 1 summed over the numbers below p, and over all challenges.
-- Assumes nothing.
use mathlib.Core.Path.{sym}
use Rattle.algebra.specs.Sum.{bit, count, counts}
use Rattle.algebra.proofs.Sum.{sum_constant, sums_constant}
use Rattle.field.specs.Field.{p, elements_of, challenges_of}
use Rattle.field.proofs.FieldPrimeField.elements.Goals as goal

pub returns : goal.returns
unfolding p elements_of challenges_of bit count counts
returns c = record { value = sym (sum_constant p 1); challenges = sym (sums_constant p 4 1) }
