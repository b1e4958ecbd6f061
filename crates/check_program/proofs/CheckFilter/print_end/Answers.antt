-- The text has room for the two lines, and they are its first bytes.
use Rattle.std.proofs.Common.{◌≡◌, ap, sym, ◌∙◌}
use Rattle.field.specs.Field.{p}
use Rattle.field.specs.Moduli.{modulus_of}
use Rattle.field.specs.declared.moduli.Modulus.{Modulus}
use Rattle.field.specs.declared.moduli.Modulus.TheVariants.{M31}
use Rattle.field.proofs.Variants.{modulus_two}
use Rattle.memory.specs.File.{file_report}
use Rattle.memory.specs.Print.{report_text}
use Rattle.memory.specs.Stream.{finish_of, unread}
use Rattle.memory.proofs.Stream.{stream_is_file}
use Rattle.pieces.specs.Calls.{stands_for}
use Rattle.stdio.proofs.Writes.{takes_prints, prints_text}
use Rattle.stream.specs.Progress.{left_by}
use Rattle.text.proofs.Written.{put_front}
use Rattle.check_program.proofs.CheckFilter.print_end.Goals as goal

pub returns : goal.returns
unfolding stands_for left_by modulus_of unread
returns g c = λ bytes h.
    let left = left_by c.args.self.now.progress c.args.buf.now in
    let report : finish_of (modulus_of c.args.self.now.progress.field) (stands_for left) ≡ file_report p bytes =
    ap (λ (k : Modulus). finish_of (modulus_of k) (stands_for left)) h.field
    ∙ ap (finish_of p) h.known
    ∙ stream_is_file p bytes (modulus_two M31) in
    let put = c.print_whole.ensures in
    let front = put_front _ _ _ _ (sym c.unwrap-end.ensures ∙ put.answer) put.slice in
    prints_text _ _ _ _ _ (front ∙ ap report_text report) (takes_prints _ _ _ _ _ c.write_first.ensures.bytes)
