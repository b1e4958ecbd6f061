-- What the program does with an input and an output whose bytes are known: what it writes is a part
-- of the text, from its front, and all of it where it answers so. Free is whether it does: a read or
-- a write may fail.
-- Assumes nothing.
use Rattle.std.specs.Prelude.{ℕ, ◌+◌, ◌*◌, ◌≤◌, ◌≡◌, List, Option, Result, IfSome, length}
use Rattle.field.specs.Field.{p}
use Rattle.field.specs.declared.moduli.Modulus.TheVariants.{M31}
use Rattle.memory.specs.Pieces.{piece, bytes_in}
use Rattle.runs.specs.FillFile.{fill_limit, fill_text}
use Rattle.runs.specs.FillStream.{gathered, line_taken, unfilled}
use Rattle.runs.specs.declared.Intake.{Intake}
use Rattle.pieces.specs.declared.Progress.{Progress}
use Rattle.stdio.specs.declared.Failure.{Failure}
use Rattle.stdio.specs.Write.{Prints}

-- the words have room for as many rows as may be due
abbrev pub Roomy : List ℕ → Type 0
Roomy words = 4 * (fill_limit + fill_limit) ≤ length words

-- a progress modulo p and the words of the rows stand for what is known after these bytes of the
-- input, the last of which are kept
pub record HasTaken (progress : Progress Intake) (words bytes kept : List ℕ) : Type 0 where
  pub start : List ℕ
  pub room : Roomy start
  pub field : progress.field ≡ M31
  pub known : piece (gathered progress.known words) kept ≡ bytes_in (line_taken p) (unfilled start) bytes

-- of an input, and of an output before and after, by whether all is printed: what the filling
-- program prints for the input's bytes, modulo p
abbrev pub Fills : Option (List ℕ) → Option (List ℕ) → Option (List ℕ) → Result (Unit {0}) Failure → Type 0
Fills input old new all = IfSome input (λ file. Prints (fill_text p file) old new all)
