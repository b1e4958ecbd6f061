-- A whole file, read in pieces and at once, gives what the whole-file definition says.
-- Assumes nothing.
use Prim.Native.Nat.{ℕ, ◌≤◌}
use mathlib.Core.Path.{◌≡◌, sym, ◌∙◌, ap}
use mathlib.Core.List.{List}
use native.Mathlib.Omega.{arith}
use lib.ListN.{length, take, drop}
use Rattle.field.specs.declared.moduli.Modulus.{Modulus}
use Rattle.field.specs.Moduli.{modulus_of}
use Rattle.field.proofs.Variants.{modulus_two}
use Rattle.memory.specs.declared.Stand.{Stand}
use Rattle.memory.specs.File.{file_report}
use Rattle.memory.specs.Pieces.{piece, end_in}
use Rattle.memory.specs.Stream.{line_of, end_report, unopened, unread, finish_of}
use Rattle.memory.specs.Print.{report_text}
use Rattle.memory.proofs.ReportLength.{report_short}
use Rattle.memory.proofs.Pieces.{last_cut}
use Rattle.memory.proofs.Stream.{cut_line, stream_is_file}
use Rattle.pieces.specs.Block.{LinesTaken}
use Rattle.pieces.specs.Calls.{started, joined}
use Rattle.pieces.proofs.Feeds.{block_read}
use Rattle.pieces.proofs.Calls.{calls_read}
use Rattle.pieces.specs.declared.Progress.{Progress}
use Rattle.stream.specs.Progress.{begun, left_by}
use Rattle.text.specs.Put.{put_of, written}
use Rattle.text.proofs.Written.{put_at_start, written_at_start}
use Rattle.stream.specs.Statements.{PiecesAreFile, PiecesArePrinted}

-- in pieces
pub pieces_are_file : PiecesAreFile
unfolding left_by begun unread started
pieces_are_file k buffer calls h =
    let q = modulus_of k in
    ap (finish_of q) (calls_read Stand (line_of q) unopened buffer calls h) ∙ stream_is_file q (joined calls) (modulus_two k)

-- and printed
pub pieces_are_printed : PiecesArePrinted
pieces_are_printed k buffer calls h text printed r room put slice =
    let lines = report_text (file_report (modulus_of k) (joined calls)) in
    let same = ap report_text (pieces_are_file k buffer calls h) in
    let fits : length lines ≤ length text = omega (arith, report_short (file_report (modulus_of k) (joined calls)), room) in
    record {
      answer = put ∙ ap (put_of (length text) 0) same ∙ put_at_start (length text) lines fits;
      bytes = ap (take (length lines)) (slice ∙ ap (written text 0) same) ∙ written_at_start text lines fits;
    }

-- at once: its whole lines, and its last line if that is not ended
pub whole_file : (k : Modulus) (file : List ℕ) (start : Progress Stand) → start ≡ begun k → (r : Stand) (used : ℕ)
    → LinesTaken (line_of (modulus_of k)) start.known file r used
    → finish_of (modulus_of k) (piece r (drop used file)) ≡ file_report (modulus_of k) file
unfolding begun unread finish_of end_in piece
whole_file k file start e r used t =
    let q = modulus_of k in
    let taken : LinesTaken (line_of q) unopened file r used = rw e at t in
    ap end_report (sym (last_cut (line_of q) (cut_line q) r (drop used file)))
    ∙ ap (finish_of q) (sym (block_read (line_of q) (cut_line q) unopened r file used taken.lines taken.rest))
    ∙ stream_is_file q file (modulus_two k)
