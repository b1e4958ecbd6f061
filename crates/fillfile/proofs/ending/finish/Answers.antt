-- `fillfile::ending::finish` meets its contract.
-- Assumes nothing.
use Rattle.fillfile.proofs.Endings.{ended_refused, ended_filled}
use Rattle.fillfile.proofs.ending.finish.Goals as goal

pub returns-then-intake-ne0 : goal.returns-then-intake-ne0
returns-then-intake-ne0 c = ended_refused _ c.args.intake c.args.words.now c.args.out.now c.args.scratch.now c.args.text.now c.ended-intake.ensures c.if-intake-ne0.true (c.refusal.ensures.answer, c.refusal.ensures.slice)

pub returns : goal.returns
returns c =
    ended_filled _ c.args.intake c.args.words.now c.args.out.now c.args.scratch.now c.args.text.now c.ended-intake.ensures c.if-intake-ne0.false
    c.due.result c.min-end.result c.from.result c.due.ensures c.min-end.ensures c.from.ensures
    c.fill-filled.result c.fill-filled.new.out c.fill-filled.new.scratch (record { answer = c.fill-filled.ensures.answer; output = c.fill-filled.ensures.output; words = c.fill-filled.ensures.words }) (c.answer.ensures.answer, c.answer.ensures.slice)
