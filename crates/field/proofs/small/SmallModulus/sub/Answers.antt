-- `field::small::SmallModulus::sub` meets its contract.
-- Assumes nothing.
use Rattle.algebra.specs.Modulo.{minus}
use Rattle.algebra.proofs.Modulo.{same_refl, same_mod, same_add}
use Rattle.field.specs.Field.{sub_of}
use Rattle.field.proofs.small.SmallModulus.sub.Goals as goal

pub returns : goal.returns
unfolding sub_of minus
returns c = (same_add (same_mod c.args.self.q c.args.x) same_refl).same
