-- `field::Field::difference` meets its contract: 16 times p makes up for what is taken away.
-- Assumes nothing.
use mathlib.Core.Path.{◌∙◌}
use native.Mathlib.Omega.{arith}
use Rattle.field.specs.Field.{p, sub_of}
use Rattle.field.proofs.Reduction.{minus_multiple}
use Rattle.field.proofs.Field.difference.Goals as goal

pub overflow_sub-x : goal.overflow_sub-x
unfolding p
overflow_sub-x c = omega arith

pub returns : goal.returns
unfolding p sub_of
returns c = c.settle.ensures ∙ minus_multiple p 16 c.args.x c.args.y (omega arith) c.requires
