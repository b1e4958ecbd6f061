-- `stream::block::lines_in` meets its contract. The loop's invariant: the used bytes are read.
-- Assumes nothing.
use native.Mathlib.Omega.{arith}
use mathlib.Core.Path.{refl}
use Rattle.field.specs.Moduli.{modulus_of}
use Rattle.memory.specs.Pieces.{bytes_in}
use Rattle.memory.specs.Stream.{line_of}
use Rattle.memory.proofs.Stream.{cut_line}
use Rattle.pieces.proofs.Feeds.{feed_some, feed_over, lines_more}
use Rattle.stream.proofs.block.lines_in.Goals as goal

pub loop-at-init : goal.loop-at-init
unfolding bytes_in
loop-at-init c = (omega arith, refl)

pub loop-at-preserved : goal.loop-at-preserved
loop-at-preserved c =
    let l = c.loop-at in
    let a = c.args in
    let next = c.line-stand in
    let q = modulus_of a.k in
    let found = feed_some a.block.now l.used c.in-Some.at c.in-Some.ensures in
    (omega (arith, found.1), lines_more (line_of q) (cut_line q) a.stand l.stand next.result a.block.now l.used c.in-Some.at l.invariant.1 found.0 found.1 next.ensures)

pub returns : goal.returns
returns c =
    let l = c.loop-at in
    record { within = l.invariant.0; lines = l.invariant.1; rest = feed_over c.args.block.now l.used c.in_default.ensures }
