-- `field::Field::modulus` meets its contract: the constant is p, and p is prime by its certificate.
-- Assumes nothing.
use mathlib.Core.Path.{refl}
use Rattle.algebra.proofs.Mersenne.{prime_p}
use Rattle.field.specs.Field.{p}
use Rattle.field.proofs.FieldPrimeField.modulus.Goals as goal

pub returns : goal.returns
unfolding p
returns c = record { value = refl; prime = prime_p }
