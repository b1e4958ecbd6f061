-- `field::wide::Field61::difference` meets its contract: 4 times the modulus makes up for what is
-- taken away.
-- Assumes nothing.
use mathlib.Core.Path.{◌∙◌}
use native.Mathlib.Omega.{arith}
use Rattle.algebra.proofs.Modulo.{same_refl, minus_same}
use Rattle.field.specs.Field.{sub_of}
use Rattle.field.specs.Wide.{p61}
use Rattle.field.proofs.Reduction.{minus_multiple}
use Rattle.field.proofs.wide.Field61.difference.Goals as goal

pub returns : goal.returns
unfolding p61 sub_of
returns c =
    c.reduce.ensures
    ∙ (minus_multiple p61 4 c.fold.result c.args.y (omega arith) c.requires
    ∙ minus_same c.fold.ensures.same same_refl)
