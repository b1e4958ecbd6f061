-- `field::moduli::Modulus::by_triple` meets its contract: a number is at most its bitwise or with
-- others.
-- Assumes nothing.
use native.Mathlib.Omega.{arith}
use Rattle.std.proofs.lemmas.Nat.{le_or_l, le_or_r}
use Rattle.field.specs.Field.{p}
use Rattle.field.proofs.moduli.Modulus.by_triple.Goals as goal

pub by_triple-requires : goal.by_triple-requires
unfolding p
by_triple-requires c = omega (arith, le_or_l, le_or_r)
