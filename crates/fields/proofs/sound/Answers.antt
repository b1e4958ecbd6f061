-- `fields::sound` meets its contract: the answer is that of `read`, by its test.
-- Assumes nothing.
use Rattle.std.proofs.lemmas.Result.{err_from_is_err_and}
use Rattle.fields.proofs.Parts.{says_none, says_large, says_key}
use Rattle.fields.proofs.sound.Goals as goal

pub returns-in_err-found-clause-answer : goal.returns-in_err-found-clause-answer
returns-in_err-found-clause-answer c =
    let p = err_from_is_err_and c.from_residual.result c.from_residual.ensures.1 in
    rw (p.1, p.2) (says_none _ _ _ _ _ c.read.ensures.answer c.ok_or.ensures.value c.in_err-found.was)

pub returns-then-not-found-clause-answer : goal.returns-then-not-found-clause-answer
returns-then-not-found-clause-answer c = says_large _ _ _ _ _ c.read.ensures.answer c.ok_or.ensures.value c.in_ok-found.was c.if-not-found.true

pub returns-clause-answer : goal.returns-clause-answer
returns-clause-answer c = says_key _ _ _ _ _ c.read.ensures.answer c.ok_or.ensures.value c.in_ok-found.was c.if-not-found.false
