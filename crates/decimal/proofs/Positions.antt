-- A byte's position in a text.
-- Assumes nothing.
use Rattle.std.proofs.Common.{◌≡◌, ◌≤◌, ℕ, List, length, drop, cond, ltb, Some, None, min, arith}
use Rattle.std.specs.Option.{unwrap_or}
use Rattle.std.proofs.lemmas.Grind.{common_steps}

-- the place found, or else the length
pub place_or_length : (p n : ℕ) → p ≤ n → unwrap_or (cond (ltb p n) (Some p) None) n ≡ p
place_or_length p n h = grind (arith, common_steps)

-- past its end nothing is left of a text
pub drop_least : (text : List ℕ) (from : ℕ) → drop (min from (length text)) text ≡ drop from text
drop_least text from = grind (arith, common_steps)
