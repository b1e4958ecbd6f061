-- What a writer whose bytes are known has of a text, after writes one after the other.
-- Assumes nothing.
use Rattle.std.proofs.Common.{◌≡◌, ℕ, List, Option, None, Some, Result, Ok, Err, take, sym, ◌∙◌, subst, append-nil}
use Rattle.std.specs.Io.KnownBytes.{Appends, Keeps}
use Rattle.stdio.specs.declared.Failure.{Failure}
use Rattle.stdio.specs.declared.Failure.TheVariants.{NoRoom, Read, Endless, Short, Write}
use Rattle.stdio.specs.Write.{Takes, Prints}

-- nothing more is nothing of any text
pub kept_none : (old new : Option (List ℕ)) (text : List ℕ) → Keeps old new → Appends old new (take 0 text)
kept_none None new text h = tt
kept_none (Some xs) None text h = absurd h
kept_none (Some xs) (Some ys) text h = h ∙ sym (append-nil xs)

-- what a write of the first n leaves of a text
pub takes_prints : (n : ℕ) (old new : Option (List ℕ)) (text : List ℕ) (r : Result (Unit {0}) Failure) → Takes n old new text r → Prints (take n text) old new r
takes_prints n old new text (Ok all) h = h
takes_prints n old new text (Err Short) h = (0, kept_none old new (take n text) h)
takes_prints n old new text (Err NoRoom) h = (h.0, h.2)
takes_prints n old new text (Err (Read e)) h = (h.0, h.2)
takes_prints n old new text (Err Endless) h = (h.0, h.2)
takes_prints n old new text (Err (Write e)) h = (h.0, h.2)

-- the same text, written otherwise
pub prints_text : {E : Type 0} (old new : Option (List ℕ)) (r : Result (Unit {0}) E) (s t : List ℕ) → s ≡ t → Prints s old new r → Prints t old new r
prints_text old new r s t e h = subst (λ (u : List ℕ). Prints u old new r) e h
