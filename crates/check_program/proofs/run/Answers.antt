-- Before the first byte nothing is taken.
use Rattle.std.proofs.Common.{take, ap}
use Rattle.memory.specs.Pieces.{piece, bytes_in}
use Rattle.stream.specs.Progress.{begun}
use Rattle.memory.specs.declared.Stand.{Stand}
use Rattle.pieces.specs.declared.Progress.{Progress}
use Rattle.check_program.proofs.run.Goals as goal

pub returns : goal.returns
unfolding begun bytes_in
returns g c =
    let e = c.start.ensures.progress in
    c.run.ensures (record { field = c.start.ensures.field; known = ap (λ (r : Progress Stand). piece r.known (take r.kept c.args.buf.now)) e })
