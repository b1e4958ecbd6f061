-- `field::small::SmallModulus::mul` meets its contract.
-- Assumes nothing.
use Rattle.algebra.specs.Modulo.{times}
use Rattle.algebra.proofs.Modulo.{mod_product}
use Rattle.field.specs.Field.{mul_of}
use Rattle.field.proofs.small.SmallModulus.mul.Goals as goal

pub returns-clause-value : goal.returns-clause-value
unfolding mul_of times
returns-clause-value c = mod_product c.args.self.q c.args.x c.args.y
