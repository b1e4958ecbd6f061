-- The modulus of each kind.
-- Assumes nothing.
use Prim.Native.Nat.{◌≤◌}
use mathlib.Core.Path.{◌≡◌, ap}
use native.Mathlib.Omega.{arith}
use Rattle.field.specs.Field.{p}
use Rattle.field.specs.Wide.{p61}
use Rattle.field.specs.declared.moduli.Modulus.{Modulus}
use Rattle.field.specs.declared.moduli.Modulus.TheVariants.{M31, M61, Small}
use Rattle.field.specs.Moduli.{modulus_of}

pub at31 : {k : Modulus} → k ≡ M31 → modulus_of k ≡ p
unfolding modulus_of
at31 e = ap modulus_of e

-- each is 2 or more
pub modulus_two : (k : Modulus) → 2 ≤ modulus_of k
unfolding modulus_of p p61
modulus_two M31 = omega arith
modulus_two M61 = omega arith
modulus_two (Small q) = omega arith
