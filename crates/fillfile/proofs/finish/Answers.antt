-- `fillfile::finish` meets its contract.
-- Assumes nothing.
use Rattle.fillfile.proofs.Endings.{finished}
use Rattle.fillfile.proofs.finish.Goals as goal

pub returns : goal.returns
returns c =
    finished _ c.args.progress c.args.buf.now c.args.words.now c.min-end.result c.min-end.ensures c.last-intake.result c.last-intake.new.words c.last-intake.ensures
    c.args.out.now c.finish.new.out c.args.scratch.now c.finish.new.scratch c.args.text.now c.finish.new.text c.finish.result c.finish.ensures
