-- `field::wide::Field61::modulus` meets its contract.
-- Assumes nothing.
use mathlib.Core.Path.{refl}
use Rattle.algebra.proofs.Mersenne61.{prime_61}
use Rattle.field.specs.Wide.{p61}
use Rattle.field.proofs.wide.Field61PrimeField.modulus.Goals as goal

pub returns : goal.returns
unfolding p61
returns c = record { value = refl; prime = prime_61 }
