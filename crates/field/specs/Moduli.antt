-- The moduli that a check can compute with.
-- Assumes nothing.
use Rattle.std.specs.Prelude.{ℕ, max, Bool, true, false}
use Rattle.field.specs.Field.{p}
use Rattle.field.specs.Wide.{p61}
use Rattle.field.specs.declared.moduli.Modulus.{Modulus}
use Rattle.field.specs.declared.moduli.Modulus.TheVariants.{M31, M61, Small}

-- the number that a check computes modulo; no number below 2 is one
unfoldable pub modulus_of : Modulus → ℕ
modulus_of M31 = p
modulus_of M61 = p61
modulus_of (Small k) = max k 2

-- the moduli of a file: p, and the larger field's 2⁶¹ − 1
unfoldable pub file_modulus : Modulus → Bool
file_modulus M31 = true
file_modulus M61 = true
file_modulus (Small k) = false
