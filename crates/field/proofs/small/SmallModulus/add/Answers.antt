-- `field::small::SmallModulus::add` meets its contract.
-- Assumes nothing.
use Rattle.algebra.specs.Modulo.{plus}
use Rattle.algebra.proofs.Modulo.{mod_sum}
use Rattle.field.specs.Field.{add_of}
use Rattle.field.proofs.small.SmallModulus.add.Goals as goal

pub returns : goal.returns
unfolding add_of plus
returns c = mod_sum c.args.self.q c.args.x c.args.y
