-- `fillfile::advance` meets its contract.
-- Assumes nothing.
use mathlib.Core.Path.{refl}
use Rattle.field.specs.Moduli.{modulus_of}
use Rattle.runs.specs.FillStream.{gathered, line_taken}
use Rattle.runs.proofs.FillStream.{cut_line}
use Rattle.pieces.proofs.Calls.{advanced}
use Rattle.fillfile.specs.Progress.{left_by}
use Rattle.fillfile.proofs.advance.Goals as goal

pub returns : goal.returns
unfolding left_by
returns c =
    let q = modulus_of c.args.progress.field in record {
      lines = advanced (line_taken q) (cut_line q) (gathered c.args.progress.known c.args.words.now) c.args.filled c.args.buf.now c.min-end.result c.min-end.ensures
          (gathered c.lines_in-taken.result.known c.lines_in-taken.new.words) c.lines_in-taken.result.used c.lines_in-taken.ensures c.keep-kept.result c.keep-kept.ensures.count c.keep-kept.new.buf c.keep-kept.ensures.slice;
      field = refl;
    }
