-- `fill_lines::job_line` meets its contract: the values are those of the line's fields.
-- Assumes nothing.
use Rattle.std.proofs.Common.{◌∙◌}
use Rattle.std.proofs.lemmas.Result.{err_from_is_err_and}
use Rattle.fields.specs.Keyed.{keyed_of}
use Rattle.lines.proofs.Parse.{on_keyed}
use Rattle.fill_lines.specs.Answers.{task_of}
use Rattle.fill_lines.proofs.Parse.{job_with, job_keyed}
use Rattle.fill_lines.proofs.job_line.Goals as goal

pub returns-in_err-key : goal.returns-in_err-key
unfolding on_keyed keyed_of task_of
returns-in_err-key c =
    let p = err_from_is_err_and c.from_residual.result c.from_residual.ensures.1 in
    rw (p.1, p.2) (job_keyed _ _ c.args.line.now.bytes c.in_err-key.ensures.answer)

pub returns : goal.returns
unfolding on_keyed keyed_of job_with
returns c = c.task_of.ensures ∙ rw c.memory_of.ensures (job_keyed _ _ c.args.line.now.bytes c.in_ok-key.ensures.answer)
