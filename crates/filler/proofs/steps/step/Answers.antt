-- `filler::steps::step` meets its contract.
-- Assumes nothing.
use Rattle.filler.proofs.Advised.{told_turned, told_advanced}
use Rattle.filler.proofs.steps.step.Goals as goal

pub returns-clause-turned : goal.returns-clause-turned
returns-clause-turned c =
    let t = c.args.trace in
    told_turned t.memory t.width c.args.k c.args.at t.inits.now t.ops.now c.args.scratch.now c.read-row.result c.read-row.ensures
    c.advise.result.0 c.advise.result.1 c.advise.new.scratch c.advise.ensures c.args.out.now c.put.new.out c.put.ensures

pub returns-clause-next : goal.returns-clause-next
returns-clause-next c =
    let t = c.args.trace in
    told_advanced t.memory t.width c.args.k c.args.at t.inits.now t.ops.now c.args.scratch.now c.read-row.result c.read-row.ensures
    c.advise.result.0 c.advise.result.1 c.advise.new.scratch c.advise.ensures
