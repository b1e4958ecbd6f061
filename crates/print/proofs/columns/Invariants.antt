-- What is still to come after the numbers before n leaves what all of them leave after what was put
-- before.
use Rattle.std.proofs.Common.{◌≡◌, length, drop}
use Rattle.text.specs.Put.{put_of, written}
use Rattle.print.specs.Rows.{columns_text}
use Rattle.print.proofs.columns.Given as goal

abbrev pub invariant-loop-n : goal.invariant-loop-n
invariant-loop-n l = record {
  answer : put_of (length l.buf) l.end (columns_text (drop l.n-index l.ns)) ≡ put_of (length l.fn.buf) l.fn.at (columns_text l.ns);
  slice : written l.buf l.end (columns_text (drop l.n-index l.ns)) ≡ written l.fn.buf l.fn.at (columns_text l.ns);
}
