-- `index::Tree::walk` meets its contract. The invariant of its loop: the search from the root is
-- that from the node reached, with steps enough left.
-- Assumes nothing.
use Prim.Native.Nat.{◌-◌}
use lib.ListN.{length}
use Rattle.index.specs.Values.{values_in}
use Rattle.index.proofs.Search.{OnTheWay}
use Rattle.index.proofs.Tree.walk.Given as goal

abbrev pub invariant-loop-node : goal.invariant-loop-node
invariant-loop-node l = OnTheWay (values_in l.self.inits.now) l.self.links.now l.value l.node l.key

abbrev pub decreases-loop-node : goal.decreases-loop-node
decreases-loop-node l = length (values_in l.self.inits.now) - l.node
