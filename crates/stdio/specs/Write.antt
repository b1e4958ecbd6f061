-- One write of the first n bytes of a text: what holds of the answer. Free is whether the write
-- fails, and which bytes leave the program.
-- Of a writer whose bytes are known, `Takes` says which of the text's it has.
-- Assumes nothing.
use Rattle.std.specs.Prelude.{ℕ, ◌<◌, ◌≤◌, List, length, take, Option, Result, Ok, Err}
use Rattle.std.specs.Io.KnownBytes.{Appends, Keeps}
use Rattle.stdio.specs.declared.Failure.{Failure}
use Rattle.stdio.specs.declared.Failure.TheVariants.{Short, Write}

-- the answers that are allowed, of a text of `size` bytes: all n are written, or a write failed, only
-- of a text that has them; and too short is exactly a text that has not, which is not written
abbrev pub WriteFirst : ℕ → ℕ → Result (Unit {0}) Failure → Type 0
WriteFirst size n (Ok all) = n ≤ size
WriteFirst size n (Err (Write e)) = n ≤ size
WriteFirst size n (Err Short) = size < n
WriteFirst size n (Err _) = ⊥

-- known bytes grow by a part of a text, from its front, and not by all of it
abbrev pub IsPartly : Option (List ℕ) → Option (List ℕ) → List ℕ → Type 0
IsPartly old new text = (k : ℕ) × (k < length text) × Appends old new (take k text)

-- of a writer whose bytes are known before and after: it has the first n of the text; nothing of a
-- text that is shorter; and of a failed write a part of those n, from their front
abbrev pub Takes : ℕ → Option (List ℕ) → Option (List ℕ) → List ℕ → Result (Unit {0}) Failure → Type 0
Takes n old new text (Ok all) = Appends old new (take n text)
Takes n old new text (Err Short) = Keeps old new
Takes n old new text (Err _) = IsPartly old new (take n text)

-- of a writer whose bytes are known before and after, by whether all of a text was written: it has
-- the text, or a part of it, from its front
abbrev pub Prints : {E : Type 0} → List ℕ → Option (List ℕ) → Option (List ℕ) → Result (Unit {0}) E → Type 0
Prints text old new (Ok all) = Appends old new text
Prints text old new (Err e) = (k : ℕ) × Appends old new (take k text)
