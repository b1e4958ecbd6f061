-- Where a comma does not fit, no number after it does.
-- Assumes nothing.
use Rattle.std.proofs.Common.{◌∙◌, [], ◌∷◌}
use Rattle.memory.specs.Bytes.{comma}
use Rattle.memory.specs.Print.{number_text}
use Rattle.text.proofs.Written.{put_none, written_none}
use Rattle.print.specs.Rows.{column_text}
use Rattle.print.proofs.column.Goals as goal

pub returns-in_err-end-clause-answer : goal.returns-in_err-end-clause-answer
unfolding column_text comma
returns-in_err-end-clause-answer c = c.from_residual.ensures ∙ put_none c.args.buf.now c.args.at (comma ∷ []) (number_text c.args.n) c.in_err-end.ensures.answer

pub returns-in_err-end-clause-slice : goal.returns-in_err-end-clause-slice
unfolding column_text comma
returns-in_err-end-clause-slice c = c.in_err-end.ensures.slice ∙ written_none c.args.buf.now c.args.at (comma ∷ []) (number_text c.args.n) c.in_err-end.ensures.answer
