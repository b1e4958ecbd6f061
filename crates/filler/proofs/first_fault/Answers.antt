-- `filler::first_fault` meets its contract.
-- Assumes nothing.
use mathlib.Core.Bool.{true}
use mathlib.Core.Path.{◌≡◌, ap, ◌∙◌}
use lib.ListN.{length}
use Rattle.memory.specs.Rows.{sized}
use Rattle.runs.specs.Filler.{inputs_in}
use Rattle.faults.proofs.FirstFault.{scan_finds_first}
use Rattle.filler.proofs.Inputs.{inputs_count}
use Rattle.filler.proofs.Tree.{prepared_tree}
use Rattle.filler.proofs.first_fault.Goals as goal

pub returns-clause-fault : goal.returns-clause-fault
returns-clause-fault c =
    let t = c.args.trace in
    let sizes : sized t.memory (length (inputs_in t.inits.now)) ≡ true = ap (sized t.memory) (inputs_count t.inits.now t.n t.starting) ∙ c.requires.allowed in
    c.first.ensures ∙ scan_finds_first _ t.memory t.inits.now _ t.ops.now sizes (prepared_tree t.memory t.n t.inits.now _ c.prepare.ensures)
