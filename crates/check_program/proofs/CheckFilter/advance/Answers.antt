-- A call of the library takes the bytes that it is handed.
use Rattle.std.proofs.Common.{◌∙◌, subst}
use Rattle.field.specs.Moduli.{modulus_of}
use Rattle.field.specs.declared.moduli.Modulus.{Modulus}
use Rattle.memory.specs.Stream.{unopened, line_of}
use Rattle.pieces.specs.Calls.{Advanced, stands_for}
use Rattle.pieces.proofs.More.{call_reads}
use Rattle.stream.specs.Progress.{left_by}
use Rattle.check_program.proofs.CheckFilter.advance.Goals as goal

pub returns : goal.returns
unfolding stands_for left_by modulus_of
returns c = λ bytes h within.
    let before = c.args.self.now.progress in
    let after = c.advance-self.result in
    let left = left_by after c.advance-self.new.buf in
    let lines = subst (λ (k : Modulus). Advanced (line_of (modulus_of k)) before.known c.args.filled c.args.buf.now left) h.field c.advance-self.ensures.lines in
    record {
      field = c.advance-self.ensures.field ∙ h.field;
      known = call_reads _ unopened bytes (left_by before c.args.buf.now) c.args.filled left h.known within lines;
    }
