-- `index::Tree::find` meets its contract.
-- Assumes nothing.
use native.Mathlib.Omega.{arith}
use mathlib.Core.Path.{sym, ◌∙◌}
use Rattle.index.specs.Values.{values_in}
use Rattle.index.proofs.Values.{values_at, values_many}
use Rattle.index.proofs.Insertion.{found_some, found_none}
use Rattle.index.proofs.Tree.find.Goals.{else-node-n-via-then-node-n+else-value, else-node-n-via-else-node-n}
use Rattle.index.proofs.Tree.find.Goals as goal

pub returns-then-value : goal.returns-then-value
returns-then-value c =
    found_some (values_in c.args.self.inits.now) c.args.self.links.now c.args.value c.walk-stop.result c.walk-stop.ensures
    (omega (arith, values_many c.args.self.inits.now))
    (sym (values_at c.args.self.inits.now c.walk-stop.result.node) ∙ sym c.value.ensures ∙ c.if-value.true)

pub returns-else-node-n : goal.returns-else-node-n
returns-else-node-n c =
    found_none (values_in c.args.self.inits.now) c.args.self.links.now c.args.value c.walk-stop.result c.walk-stop.ensures
    (elim c.else-node-n.branch [
      | else-node-n-via-then-node-n+else-value w ↦ λ h e. w.if-value.false (w.value.ensures ∙ values_at c.args.self.inits.now c.walk-stop.result.node ∙ e)
      | else-node-n-via-else-node-n w ↦ λ h e. omega (arith, values_many c.args.self.inits.now)
    ])
