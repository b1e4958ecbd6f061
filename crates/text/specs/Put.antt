-- Text put into a lent slice of bytes from a position on: the answer, and what the slice holds
-- afterwards.
-- Assumes nothing.
use Rattle.std.specs.Prelude.{ℕ, ◌+◌, ◌-◌, ◌≡◌, cond, List, ◌++◌, leb, length, take, drop, Option, None, Some}

-- the position after a text in a slice of `room` bytes, or none where the room is too short
unfoldable pub put_of : ℕ → ℕ → List ℕ → Option ℕ
put_of room at text = cond (leb (at + length text) room) (Some (at + length text)) None

-- a slice with a text in it from `at` on, as much of the text as there is room for; all other bytes
-- are as they were
unfoldable pub written : List ℕ → ℕ → List ℕ → List ℕ
written buf at text = take at buf ++ take (length buf - at) text ++ drop (at + length text) buf

-- a slice begins with a text, and the answer is the text's length
pub record Printed (content printed : List ℕ) (r : Option ℕ) : Type 0 where
  pub answer : r ≡ Some (length content)
  pub bytes : take (length content) printed ≡ content
