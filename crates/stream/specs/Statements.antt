-- What is shown of the functions that run: types only, over their contracts. Each is proved in the file and by the name in brackets.
-- Assumes nothing.
use Rattle.std.specs.Prelude.{ℕ, ◌≤◌, ◌≡◌, List, length, Option}
use Rattle.field.specs.declared.moduli.Modulus.{Modulus}
use Rattle.field.specs.Moduli.{modulus_of}
use Rattle.memory.specs.declared.Stand.{Stand}
use Rattle.memory.specs.File.{file_report}
use Rattle.memory.specs.Stream.{line_of, finish_of}
use Rattle.memory.specs.Print.{report_text}
use Rattle.pieces.specs.Calls.{stands_for, Call, Calls, joined, last_left}
use Rattle.text.specs.Put.{put_of, written, Printed}
use Rattle.stream.specs.Progress.{begun, left_by}

-- "The program `check` reads standard input": for any modulus, after `start`, any calls of
-- `advance`, each handed what the call before it left and bytes of any number behind it, `finish`
-- answers the report of all those bytes, joined. (File: pieces_are_file)
abbrev pub PiecesAreFile : Type 0
PiecesAreFile =
    (k : Modulus) (buffer : List ℕ) (calls : List (Call Stand))
    → Calls (line_of (modulus_of k)) (left_by (begun k) buffer) calls
    → finish_of (modulus_of k) (stands_for (last_left (left_by (begun k) buffer) calls)) ≡ file_report (modulus_of k) (joined calls)

-- "It prints two lines": in the same way `print_end`, lent 109 bytes or more, and `print_whole`, by
-- which `check` prints, put into them the two lines of that report. (File: pieces_are_printed)
abbrev pub PiecesArePrinted : Type 0
PiecesArePrinted =
    (k : Modulus) (buffer : List ℕ) (calls : List (Call Stand))
    → Calls (line_of (modulus_of k)) (left_by (begun k) buffer) calls
    → (text printed : List ℕ) (r : Option ℕ) → 109 ≤ length text
    → let lines = report_text (finish_of (modulus_of k) (stands_for (last_left (left_by (begun k) buffer) calls))) in
    r ≡ put_of (length text) 0 lines → printed ≡ written text 0 lines
    → Printed (report_text (file_report (modulus_of k) (joined calls))) printed r
