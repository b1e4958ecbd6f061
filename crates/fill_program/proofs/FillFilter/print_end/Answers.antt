-- The program lends as much as the library asks for, so that what is to be printed is the text's
-- first bytes.
use Rattle.std.proofs.Common.{◌≡◌, ℕ, replicate, ap, sym, ◌∙◌, arith}
use Rattle.std.proofs.lemmas.List.{length-replicate}
use Rattle.field.specs.Field.{p}
use Rattle.field.specs.Moduli.{modulus_of}
use Rattle.field.specs.declared.moduli.Modulus.{Modulus}
use Rattle.memory.specs.Pieces.{Piece, end_in}
use Rattle.runs.specs.FillFile.{fill_text, fill_limit}
use Rattle.runs.specs.FillStream.{Gathered, unfilled, line_taken}
use Rattle.pieces.specs.Calls.{stands_for}
use Rattle.stdio.proofs.Writes.{takes_prints, prints_text}
use Rattle.text.proofs.Written.{put_front}
use Rattle.fillfile.specs.Progress.{left_by}
use Rattle.fillfile.specs.Ending.{ending_of, end_of}
use Rattle.fillfile.proofs.Program.{program_text}
use Rattle.fill_program.proofs.FillFilter.print_end.Goals as goal

pub returns : goal.returns
unfolding end_of stands_for left_by modulus_of unfilled fill_limit
returns g c = λ bytes h.
    let fill = c.args.self.now in
    let left = left_by fill.progress fill.words c.args.buf.now in
    let out = replicate 4480 0 in
    let scratch = replicate 640 0 in
    let content : (ending_of (modulus_of fill.progress.field) (end_of (modulus_of fill.progress.field) left) out scratch).text ≡ fill_text p bytes =
    ap (λ (k : Modulus). (ending_of (modulus_of k) (end_of (modulus_of k) left) out scratch).text) h.field
    ∙ ap (λ (v : Piece Gathered). (ending_of p (end_in (line_taken p) v) out scratch).text) h.known
    ∙ program_text p out scratch (omega (arith, length-replicate {A = ℕ} 4480 0)) (omega (arith, length-replicate {A = ℕ} 640 0)) bytes h.start h.room in
    let ended = c.finish.ensures.ended in
    let front = put_front _ _ _ _ (sym c.in_ok-end.ensures.ok_part ∙ ended.answer) ended.bytes in
    prints_text _ _ _ _ _ (front ∙ content) (takes_prints _ _ _ _ _ c.write_first.ensures.bytes)
