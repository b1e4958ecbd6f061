-- What is shown of the definitions. proofs/ has a proof of each, under the name that the comment gives.
-- Assumes nothing.
use Rattle.std.specs.Prelude.{ℕ, ◌+◌, ◌*◌, ◌≤◌, ◌≡◌, List, length}
use Rattle.memory.specs.Pieces.{bytes_in}
use Rattle.runs.specs.FillFile.{fill_limit, fill_text}
use Rattle.runs.specs.FillStream.{line_taken, unfilled, fill_end}

-- The filling program's input read byte by byte, up to its end, with words for as many rows as may be due, gives what the program prints. (FillStream: fill_stream_is_text)
abbrev pub FillStreamIsText : Type 0
FillStreamIsText =
    (q : ℕ) (bytes words : List ℕ) → 4 * (fill_limit + fill_limit) ≤ length words
    → fill_end q (bytes_in (line_taken q) (unfilled words) bytes) ≡ fill_text q bytes

-- What the filling program prints has at most 85,797 bytes: a names line of 37, and 134 for each of 640 rows. (FillLength: fill_text_short)
abbrev pub FillTextShort : Type 0
FillTextShort = (q : ℕ) (bytes : List ℕ) → length (fill_text q bytes) ≤ 85797
