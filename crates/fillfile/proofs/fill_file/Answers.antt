-- `fillfile::fill_file` meets its contract.
-- Assumes nothing.
use lib.Dec.{lit≤}
use Rattle.fillfile.proofs.Program.{whole_input}
use Rattle.fillfile.proofs.fill_file.Goals as goal

pub returns : goal.returns
returns c =
    let all =
    whole_input _ _ _ (lit≤ tt) (lit≤ tt) c.args.input.now _ (lit≤ tt) _ c.start-begun.result c.start-begun.ensures.progress c.lines_in-taken.new.words c.lines_in-taken.result c.lines_in-taken.ensures
    c.last-intake.result c.last-intake.new.words c.last-intake.ensures c.finish.new.out c.finish.new.scratch c.args.text.now c.finish.new.text c.finish.result c.finish.ensures
    in record { answer = all.0; slice = all.1 }
