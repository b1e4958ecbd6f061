-- A call of the library takes the bytes that it is handed.
use Rattle.std.proofs.Common.{◌∙◌, subst}
use Rattle.field.specs.Moduli.{modulus_of}
use Rattle.field.specs.declared.moduli.Modulus.{Modulus}
use Rattle.runs.specs.FillStream.{gathered, untaken, unfilled, line_taken}
use Rattle.pieces.specs.Calls.{Advanced, stands_for}
use Rattle.pieces.proofs.More.{call_reads}
use Rattle.fillfile.specs.Progress.{left_by}
use Rattle.fill_program.proofs.FillFilter.advance.Goals as goal

pub returns : goal.returns
unfolding stands_for left_by modulus_of unfilled
returns c = λ bytes h within.
    let fill = c.args.self.now in
    let before = left_by fill.progress fill.words c.args.buf.now in
    let left = left_by c.advance-self.result c.advance-self.new.words c.advance-self.new.buf in
    let lines = subst (λ (k : Modulus). Advanced (line_taken (modulus_of k)) (gathered fill.progress.known fill.words) c.args.filled c.args.buf.now left) h.field c.advance-self.ensures.lines in
    record {
      start = h.start;
      room = h.room;
      field = c.advance-self.ensures.field ∙ h.field;
      known = call_reads _ (gathered untaken h.start) bytes before c.args.filled left h.known within lines;
    }
