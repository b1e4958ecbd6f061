-- `field::wide::Field61::sub` meets its contract: the folded number is the same as the number.
-- Assumes nothing.
use mathlib.Core.Path.{◌∙◌}
use Rattle.algebra.proofs.Modulo.{same_refl, minus_same}
use Rattle.field.specs.Field.{sub_of}
use Rattle.field.proofs.wide.Field61PrimeField.sub.Goals as goal

pub returns : goal.returns
unfolding sub_of
returns c = c.difference.ensures ∙ minus_same same_refl c.fold.ensures.same
