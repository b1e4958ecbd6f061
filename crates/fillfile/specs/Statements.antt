-- What is shown of the functions that run: types only, over their contracts. Each is proved in the
-- file and by the name in brackets.
-- Assumes nothing.
use Rattle.std.specs.Prelude.{ℕ, ◌+◌, ◌*◌, ◌≤◌, List, length, Option}
use Rattle.field.specs.declared.moduli.Modulus.{Modulus}
use Rattle.field.specs.Moduli.{modulus_of}
use Rattle.runs.specs.Filler.{room}
use Rattle.runs.specs.FillFile.{fill_limit, fill_text}
use Rattle.runs.specs.FillStream.{Gathered, line_taken}
use Rattle.pieces.specs.Calls.{Call, Calls, joined, last_left}
use Rattle.text.specs.Put.{Printed}
use Rattle.fillfile.specs.Progress.{begun, left_by}
use Rattle.fillfile.specs.Ending.{Finished}

-- What a caller lends, at least: words for as many rows as may be due, "room for 2n + 3T output
-- rows and 2n + 3T scratch words", and bytes for the longest text that is printed (runs:
-- FillTextShort)
pub record Lent (words out scratch text : List ℕ) : Type 0 where
  pub rows : 4 * (fill_limit + fill_limit) ≤ length words
  pub output : 7 * room fill_limit fill_limit ≤ length out
  pub counts : room fill_limit fill_limit ≤ length scratch
  pub bytes : 85797 ≤ length text

-- "It reads its whole input first": for any modulus, after `start`, any calls of `advance`, each
-- handed what the call before it left and bytes of any number behind it, `finish` prints what the
-- filling program prints for all those bytes, joined. (Program: pieces_are_text)
abbrev pub PiecesAreText : Type 0
PiecesAreText =
    (k : Modulus) (words buffer : List ℕ) (calls : List (Call Gathered)) → Calls (line_taken (modulus_of k)) (left_by (begun k) words buffer) calls
    → (stored out filled scratch cleared text printed : List ℕ) (r : Option ℕ) → Lent words out scratch text
    → Finished (modulus_of k) (last_left (left_by (begun k) words buffer) calls) stored out filled scratch cleared text printed r
    → Printed (fill_text (modulus_of k) (joined calls)) printed r
