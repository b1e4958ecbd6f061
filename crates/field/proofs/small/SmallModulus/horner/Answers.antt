-- `field::small::SmallModulus::horner` meets its contract.
-- Assumes nothing.
use mathlib.Core.Path.{◌∙◌}
use Rattle.algebra.specs.Modulo.{plus}
use Rattle.algebra.proofs.Modulo.{same_refl, same_add}
use Rattle.field.specs.Field.{add_of, mul_of, horner_of}
use Rattle.field.proofs.Congruence.{same_times}
use Rattle.field.proofs.small.SmallModulus.horner.Goals as goal

pub returns : goal.returns
unfolding add_of mul_of horner_of plus
returns c = c.add.ensures ∙ (same_add (same_times _ _ c.mul.ensures.value) same_refl).same
