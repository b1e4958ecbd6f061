-- `lines::value_line` meets its contract: the values are those of the line's fields.
-- Assumes nothing.
use Rattle.std.proofs.Common.{◌∙◌}
use Rattle.std.proofs.lemmas.Result.{err_from_is_err_and}
use Rattle.fields.specs.Keyed.{keyed_of}
use Rattle.lines.specs.Answers.{opening_of}
use Rattle.lines.proofs.Parse.{on_keyed, values_keyed}
use Rattle.lines.proofs.value_line.Goals as goal

pub returns-in_err-key : goal.returns-in_err-key
unfolding on_keyed keyed_of opening_of
returns-in_err-key c =
    let p = err_from_is_err_and c.from_residual.result c.from_residual.ensures.1 in
    rw (p.1, p.2) (values_keyed _ _ c.args.line.now.bytes c.in_err-key.ensures.answer)

pub returns : goal.returns
unfolding on_keyed keyed_of
returns c = c.opened_by.ensures ∙ rw c.memory_of.ensures (values_keyed _ _ c.args.line.now.bytes c.in_ok-key.ensures.answer)
