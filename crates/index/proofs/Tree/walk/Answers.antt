-- `index::Tree::walk` meets its contract.
-- Assumes nothing.
use native.Mathlib.Omega.{arith}
use mathlib.Core.Path.{sym, ◌∙◌}
use Rattle.index.specs.Values.{values_in}
use Rattle.index.proofs.Values.{values_at, values_many}
use Rattle.index.proofs.Search.{child_some, way_begins, way_met, way_ended, way_further}
use Rattle.index.proofs.Tree.walk.Goals as goal

pub loop-node-init : goal.loop-node-init
loop-node-init c = way_begins (values_in c.args.self.inits.now) c.args.self.links.now c.args.value

pub returns-in_default : goal.returns-in_default
returns-in_default c =
    way_ended (values_in c.args.self.inits.now) c.args.self.links.now c.args.value c.loop-node.node c.loop-node.key c.loop-node.invariant
    (rw (values_many c.args.self.inits.now) c.in_default.ensures)

pub loop-node-smaller : goal.loop-node-smaller
loop-node-smaller c =
    let child = child_some _ c.args.self.links.now c.loop-node.node c.loop-node.key c.in-Some.next c.in-Some.ensures in
    omega (arith, values_many c.args.self.inits.now)

pub loop-node-preserved : goal.loop-node-preserved
loop-node-preserved c =
    way_further (values_in c.args.self.inits.now) c.args.self.links.now c.args.value c.loop-node.node c.loop-node.key c.in-Some.next c.loop-node.invariant
    (λ e. c.loop-node-test.true (c.value.ensures ∙ values_at c.args.self.inits.now c.loop-node.node ∙ e))
    (rw (values_many c.args.self.inits.now) c.in-Some.ensures)

pub returns : goal.returns
returns c =
    way_met (values_in c.args.self.inits.now) c.args.self.links.now c.args.value c.loop-node.node c.loop-node.key c.loop-node.invariant
    (sym (values_at c.args.self.inits.now c.loop-node.node) ∙ sym c.value.ensures ∙ c.loop-node-test.false)
