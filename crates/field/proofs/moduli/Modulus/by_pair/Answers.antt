-- `field::moduli::Modulus::by_pair` meets its contract: a number is at most its bitwise or with
-- others, and a pair is a triple with a last number 0.
-- Assumes nothing.
use mathlib.Core.Path.{◌∙◌}
use native.Mathlib.Omega.{arith}
use Rattle.std.proofs.lemmas.Nat.{le_or_l, le_or_r}
use Rattle.field.specs.Field.{p}
use Rattle.field.proofs.Congruence.{no_third}
use Rattle.field.proofs.moduli.Modulus.by_pair.Goals as goal

pub by_pair-requires : goal.by_pair-requires
unfolding p
by_pair-requires c = omega (arith, le_or_l, le_or_r)

pub returns-in_default : goal.returns-in_default
returns-in_default c = c.by_any.ensures ∙ no_third _ _ _ _ _ _ _
