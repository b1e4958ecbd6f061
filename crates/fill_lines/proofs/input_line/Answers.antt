-- `fill_lines::input_line` meets its contract: the row is that of the line's fields.
-- Assumes nothing.
use Rattle.std.proofs.lemmas.Result.{err_from_is_err_and}
use Rattle.fields.specs.Keyed.{keyed_of}
use Rattle.lines.proofs.Parse.{on_keyed}
use Rattle.fill_lines.specs.Answers.{given_of, input_with}
use Rattle.fill_lines.proofs.Parse.{input_keyed}
use Rattle.fill_lines.proofs.input_line.Goals as goal

pub returns-in_err-key : goal.returns-in_err-key
unfolding on_keyed keyed_of given_of
returns-in_err-key c =
    let p = err_from_is_err_and c.from_residual.result c.from_residual.ensures.1 in
    rw (p.1, p.2) (input_keyed _ _ c.args.line.now.bytes c.in_err-key.ensures.answer)

pub returns : goal.returns
unfolding on_keyed keyed_of given_of input_with
returns c = rw c.op_of.ensures (input_keyed _ _ c.args.line.now.bytes c.in_ok-key.ensures.answer)
