-- Where a comma and a number do not fit, nothing that follows does.
-- Assumes nothing.
use Rattle.std.proofs.Common.{◌∙◌, sym, ap, ◌+◌, length, drop, get_or, arith}
use Rattle.text.specs.Put.{put_of, written}
use Rattle.text.proofs.Written.{put_none, written_none}
use Rattle.print.specs.Rows.{column_text, columns_text}
use Rattle.print.proofs.Numbers.{columns_from}
use Rattle.print.proofs.columns.Goals as goal

pub returns-in_err-end-clause-answer : goal.returns-in_err-end-clause-answer
returns-in_err-end-clause-answer c =
    let i = c.loop-n.n-index in
    let ns = c.args.ns.now in
    c.from_residual.ensures ∙ put_none c.loop-n.buf c.loop-n.end (column_text (get_or ns i 0)) (columns_text (drop (i + 1) ns)) c.in_err-end.ensures.answer
    ∙ ap (put_of (length c.loop-n.buf) c.loop-n.end) (sym (columns_from ns i (omega arith))) ∙ c.loop-n.invariant.answer

pub returns-in_err-end-clause-slice : goal.returns-in_err-end-clause-slice
returns-in_err-end-clause-slice c =
    let i = c.loop-n.n-index in
    let ns = c.args.ns.now in
    c.in_err-end.ensures.slice ∙ written_none c.loop-n.buf c.loop-n.end (column_text (get_or ns i 0)) (columns_text (drop (i + 1) ns)) c.in_err-end.ensures.answer
    ∙ ap (written c.loop-n.buf c.loop-n.end) (sym (columns_from ns i (omega arith))) ∙ c.loop-n.invariant.slice
