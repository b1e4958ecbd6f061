-- `faults::operation_fault` meets its contract.
-- Assumes nothing.
use mathlib.Core.Path.{sym}
use Rattle.std.proofs.lemmas.Result.{err_from_is_err_and}
use Rattle.field.specs.Moduli.{modulus_of}
use Rattle.index.specs.Values.{values_in}
use Rattle.runs.specs.Given.{given_input}
use Rattle.faults.specs.Scan.{in_tree}
use Rattle.faults.proofs.Scanned.{fault_form}
use Rattle.faults.proofs.operation_fault.Goals as goal

pub returns-in_err-fault : goal.returns-in_err-fault
returns-in_err-fault c =
    let p = err_from_is_err_and c.from_residual.result c.from_residual.ensures.1 in
    rw (p.1, p.2)
    (sym (fault_form (modulus_of c.args.field) c.args.m (in_tree (values_in c.args.tree.inits.now) c.args.tree.links.now) c.args.level c.args.row (given_input c.from.result) c.from.ensures c.in_err-fault.field-0.0 c.in_err-fault.ensures))
