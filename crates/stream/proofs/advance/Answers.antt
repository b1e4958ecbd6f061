-- `stream::advance` meets its contract.
-- Assumes nothing.
use mathlib.Core.Path.{refl}
use Rattle.field.specs.Moduli.{modulus_of}
use Rattle.memory.specs.Stream.{line_of}
use Rattle.memory.proofs.Stream.{cut_line}
use Rattle.pieces.proofs.Calls.{advanced}
use Rattle.stream.specs.Progress.{left_by}
use Rattle.stream.proofs.advance.Goals as goal

pub returns : goal.returns
unfolding left_by
returns c =
    let taken = c.lines_in-taken in
    let end = c.min-end in
    let a = c.args in
    let keep = c.keep-kept in
    let q = modulus_of a.progress.field in record {
      lines = advanced (line_of q) (cut_line q) a.progress.known a.filled a.buf.now end.result end.ensures taken.result.known taken.result.used
          taken.ensures keep.result keep.ensures.count keep.new.buf keep.ensures.slice;
      field = refl;
    }
