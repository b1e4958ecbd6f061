-- What the program does with an input and an output whose bytes are known: what it writes is a part
-- of the two lines, from their front, and all of them where it answers so. Free is whether it does:
-- a read or a write may fail.
-- Assumes nothing.
use Rattle.std.specs.Prelude.{ℕ, ◌≡◌, List, [], Option, Result, IfSome}
use Rattle.field.specs.Field.{p}
use Rattle.field.specs.declared.moduli.Modulus.TheVariants.{M31}
use Rattle.memory.specs.File.{file_report}
use Rattle.memory.specs.Pieces.{piece, bytes_in}
use Rattle.memory.specs.Print.{report_text}
use Rattle.memory.specs.Stream.{unopened, line_of}
use Rattle.stdio.specs.declared.Failure.{Failure}
use Rattle.stdio.specs.Write.{Prints}
use Rattle.memory.specs.declared.Stand.{Stand}
use Rattle.pieces.specs.declared.Progress.{Progress}

-- of an input, and of an output before and after, by whether all is printed: the two lines for the
-- input's bytes, modulo p
abbrev pub Checks : Option (List ℕ) → Option (List ℕ) → Option (List ℕ) → Result (Unit {0}) Failure → Type 0
Checks input old new all = IfSome input (λ file. Prints (report_text (file_report p file)) old new all)

-- a progress modulo p stands for what is known after these bytes of the file, the last of which are
-- kept
pub record HasTaken (progress : Progress Stand) (bytes kept : List ℕ) : Type 0 where
  pub field : progress.field ≡ M31
  pub known : piece progress.known kept ≡ bytes_in (line_of p) (piece unopened []) bytes
