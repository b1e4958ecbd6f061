-- `text::number` meets its contract. The invariant of its loop is `Laid`: the digits behind `first`
-- stand in the array, and `left` is still to come.
-- Assumes nothing.
use mathlib.Core.Path.{refl, ap, ◌∙◌}
use native.Mathlib.Omega.{arith}
use borrow.Author.Rules.{rules}
use lib.ListN.{length}
use Rattle.text.specs.Put.{put_of, written}
use Rattle.text.proofs.Digits.{laid_none, laid_more, laid_text}
use Rattle.text.proofs.number.Goals as goal

pub loop-left-init : goal.loop-left-init
loop-left-init c = laid_none c.args.n _ refl (search rules)

pub loop-left-preserved : goal.loop-left-preserved
loop-left-preserved c = laid_more c.loop-left.invariant c.loop-left-test.true

pub returns-clause-answer : goal.returns-clause-answer
returns-clause-answer c =
    c.bytes.ensures.answer ∙ ap (put_of (length c.args.buf.now) c.args.at) (laid_text c.loop-left.invariant (omega (arith, c.loop-left-test.false)))

pub returns-clause-slice : goal.returns-clause-slice
returns-clause-slice c =
    c.bytes.ensures.slice ∙ ap (written c.args.buf.now c.args.at) (laid_text c.loop-left.invariant (omega (arith, c.loop-left-test.false)))
