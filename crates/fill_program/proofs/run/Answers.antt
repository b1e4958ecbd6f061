-- Before the first byte nothing is taken.
use Rattle.std.proofs.Common.{replicate, take, ap}
use lib.Dec.{lit≤}
use Rattle.memory.specs.Pieces.{piece, bytes_in}
use Rattle.runs.specs.FillFile.{fill_limit}
use Rattle.runs.specs.FillStream.{gathered, unfilled}
use Rattle.fillfile.specs.Progress.{begun}
use Rattle.runs.specs.declared.Intake.{Intake}
use Rattle.pieces.specs.declared.Progress.{Progress}
use Rattle.fill_program.proofs.run.Goals as goal

pub returns : goal.returns
unfolding begun bytes_in unfilled fill_limit
returns g c =
    let e = c.start.ensures.progress in
    let zeros = replicate 1024 0 in
    c.run.ensures (record { start = zeros; room = lit≤ tt; field = c.start.ensures.field; known = ap (λ (r : Progress Intake). piece (gathered r.known zeros) (take r.kept c.args.buf.now)) e })
