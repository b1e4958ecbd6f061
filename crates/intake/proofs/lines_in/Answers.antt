-- `intake::lines_in` meets its contract. The loop's invariant: the used bytes are read.
-- Assumes nothing.
use native.Mathlib.Omega.{arith}
use mathlib.Core.Path.{refl, ◌∙◌}
use Rattle.field.specs.Moduli.{modulus_of}
use Rattle.memory.specs.Pieces.{bytes_in}
use Rattle.runs.specs.FillStream.{gathered, line_taken}
use Rattle.runs.proofs.FillStream.{cut_line}
use Rattle.pieces.proofs.Feeds.{feed_some, feed_over, lines_more}
use Rattle.intake.proofs.lines_in.Goals as goal

pub loop-at-init : goal.loop-at-init
unfolding bytes_in
loop-at-init c = ((omega arith, refl), refl)

pub loop-at-preserved : goal.loop-at-preserved
loop-at-preserved c =
    let q = modulus_of c.args.field in
    let l = c.loop-at in
    let at = c.in-Some.at in
    let found = feed_some c.args.block.now l.used at c.in-Some.ensures in
    let more = lines_more (line_taken q) (cut_line q) (gathered c.args.intake c.args.words.now) (gathered l.intake l.words) (gathered c.line-intake.result c.line-intake.new.words) c.args.block.now l.used at in
    ((omega (arith, found.1), c.line-intake.auto.words ∙ l.invariant.0.1), more l.invariant.1 found.0 found.1 c.line-intake.ensures)

pub returns : goal.returns
returns c =
    let l = c.loop-at in
    record { within = l.invariant.0.0; lines = l.invariant.1; rest = feed_over c.args.block.now l.used c.in_default.ensures }
