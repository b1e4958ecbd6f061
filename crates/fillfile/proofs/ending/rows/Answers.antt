-- Each row is put behind those before it, and where one does not fit none that follow do.
-- Assumes nothing.
use Rattle.std.proofs.Common.{◌+◌, ◌∙◌, arith}
use Rattle.memory.specs.Print.{row_text}
use Rattle.print.specs.Rows.{row_in}
use Rattle.fillfile.proofs.Texts.{put_text, put_more, put_cut, filled_none, filled_more, filled_rest}
use Rattle.fillfile.proofs.ending.rows.Goals as goal

pub returns-in_err-at : goal.returns-in_err-at
returns-in_err-at c =
    let rest = filled_rest c.args.out.now 0 c.args.count (omega arith) in
    let put = put_cut _ _ rest.0 rest.1 (put_text _ 0 (filled_none _) (c.in_err-at.ensures.answer, c.in_err-at.ensures.slice)) in
    record { answer = c.from_residual.ensures ∙ put.0; slice = put.1 }

pub loop-k-init : goal.loop-k-init
loop-k-init c = put_text _ 0 (filled_none _) (c.in_ok-at.ensures.answer, c.in_ok-at.ensures.slice)

pub returns-in_err-at-2 : goal.returns-in_err-at-2
returns-in_err-at-2 c =
    let k = c.loop-k.k in
    let rest = filled_rest c.args.out.now (k + 1) c.args.count (omega arith) in
    let row = put_more _ c.loop-k.at _ (row_text (row_in c.args.out.now k)) c.loop-k.invariant (c.in_err-at-2.ensures.answer, c.in_err-at-2.ensures.slice) in
    let put = put_cut _ _ rest.0 rest.1 (put_text _ 0 (filled_more _ k) row) in
    record { answer = c.from_residual-in_err-at-2.ensures ∙ put.0; slice = put.1 }

pub loop-k-preserved : goal.loop-k-preserved
loop-k-preserved c =
    let k = c.loop-k.k in
    put_text _ 0 (filled_more _ k)
    (put_more _ c.loop-k.at _ (row_text (row_in c.args.out.now k)) c.loop-k.invariant (c.in_ok-at-2.ensures.answer, c.in_ok-at-2.ensures.slice))
