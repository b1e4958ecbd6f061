-- `index::grow` meets its contract. The invariant of its loop: the whole tree is what the nodes
-- left make of the words.
-- Assumes nothing.
use Prim.Native.Nat.{◌-◌}
use mathlib.Core.Path.{◌≡◌}
use Rattle.index.specs.Values.{values_in}
use Rattle.index.specs.Tree.{grown_from, grown}
use Rattle.index.proofs.grow.Given as goal

abbrev pub invariant-loop-k : goal.invariant-loop-k
invariant-loop-k l = grown (values_in l.inits) l.initial.links ≡ grown_from (values_in l.inits) l.k (l.n - l.k) l.links
