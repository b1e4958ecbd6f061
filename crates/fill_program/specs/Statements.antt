-- What is shown of the program's contract, where the bytes of its input and output are known: types
-- only. Each is proved in the file and by the name in brackets.
-- Assumes nothing.
use Rattle.std.specs.Prelude.{ℕ, ◌≡◌, List, ◌++◌, take, Some, Ok, Err}
use Rattle.field.specs.Field.{p}
use Rattle.runs.specs.FillFile.{fill_text}
use Rattle.stdio.specs.declared.Failure.{Failure}
use Rattle.fill_program.specs.Run.{Fills}

-- Where the loop answers that all is printed, what the filling program prints for the whole input,
-- modulo p, stands behind what the output had; and else a part of it, from its front. (Printed:
-- fill_printed)
abbrev pub FillPrinted : Type 0
FillPrinted =
    (file old new : List ℕ)
    → (Fills (Some file) (Some old) (Some new) (Ok tt) → new ≡ old ++ fill_text p file)
    × ((e : Failure) → Fills (Some file) (Some old) (Some new) (Err e) → (k : ℕ) × (new ≡ old ++ take k (fill_text p file)))
