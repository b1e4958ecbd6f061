-- `values::below` meets its contract.
-- Assumes nothing.
use Rattle.memory.proofs.Below.{each_below}
use Rattle.values.proofs.below.Goals as goal

pub returns : goal.returns
returns g c = simp (c.each_less.ensures, each_below, c.modulus.ensures)
