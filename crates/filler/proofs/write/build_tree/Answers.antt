-- `filler::write::build_tree` meets its contract.
-- Assumes nothing.
use native.Mathlib.Omega.{arith}
use mathlib.Core.Path.{◌≡◌}
use lib.ListN.{length}
use lib.Seq.{length-take-le}
use Rattle.filler.proofs.Tree.{tree_built}
use Rattle.filler.proofs.write.build_tree.Goals as goal

pub returns : goal.returns
returns c =
    let t = c.args.trace in
    let long : length c.grow.new.links ≡ t.n = omega (arith, c.grow.auto, length-take-le t.n c.args.scratch.now c.requires.room) in
    tree_built t.n t.inits.now c.args.scratch.now _ t.starting c.requires long c.grow.ensures
