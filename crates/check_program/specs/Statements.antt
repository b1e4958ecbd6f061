-- What is shown of the program's contract, where the bytes of its input and output are known: types
-- only. Each is proved in the file and by the name in brackets.
-- Assumes nothing.
use Rattle.std.specs.Prelude.{ℕ, ◌≡◌, List, ◌++◌, take, Some, Ok, Err}
use Rattle.field.specs.Field.{p}
use Rattle.memory.specs.File.{file_report}
use Rattle.memory.specs.Print.{report_text}
use Rattle.stdio.specs.declared.Failure.{Failure}
use Rattle.check_program.specs.Run.{Checks}

-- Where the loop answers that all is printed, the two lines for the whole input, modulo p, stand
-- behind what the output had; and else a part of them, from their front. (Printed: check_printed)
abbrev pub CheckPrinted : Type 0
CheckPrinted =
    (file old new : List ℕ)
    → (Checks (Some file) (Some old) (Some new) (Ok tt) → new ≡ old ++ report_text (file_report p file))
    × ((e : Failure) → Checks (Some file) (Some old) (Some new) (Err e) → (k : ℕ) × (new ≡ old ++ take k (report_text (file_report p file))))
