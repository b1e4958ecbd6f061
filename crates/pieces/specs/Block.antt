-- A block of bytes: its first line feed, its whole lines, and what is kept of the line after them.
-- Assumes nothing.
use Rattle.std.specs.Prelude.{ℕ, suc, ◌+◌, ◌≤◌, ◌≡◌, cond, Option, None, Some, List, [], ◌∷◌, ◌++◌, eqb, ltb, length, take, drop}
use Rattle.memory.specs.Bytes.{Line, feed}
use Rattle.memory.specs.Pieces.{cut, piece, bytes_in}

-- how many bytes stand before the first line feed
unfoldable pub until_feed : List ℕ → ℕ
until_feed [] = 0
until_feed (b ∷ bs) = cond (eqb b feed) 0 (suc (until_feed bs))

-- where the first line feed from a position on stands, if there is one
unfoldable pub feed_at : ℕ → List ℕ → Option ℕ
feed_at from block =
    let rest = drop from block in
    cond (ltb (until_feed rest) (length rest)) (Some (from + until_feed rest)) None

-- what is kept of an unfinished line, the bytes from a position up to an end
unfoldable pub rest_of : ℕ → ℕ → List ℕ → List ℕ
rest_of from end buffer = cut (drop from (take end buffer))

-- a buffer with these bytes at its front; the bytes behind them stay
unfoldable pub fronted : List ℕ → List ℕ → List ℕ
fronted front buffer = front ++ drop (length front) buffer

-- The whole lines of a block are read, as many bytes of it are used, and what is left of it has no line feed. What a line does to what is known is a parameter
pub record LinesTaken {S : Type 0} (line : S → Line → S) (s : S) (block : List ℕ) (r : S) (used : ℕ) : Type 0 where
  pub within : used ≤ length block
  pub lines : bytes_in line (piece s []) (take used block) ≡ piece r []
  pub rest : until_feed (drop used block) ≡ length (drop used block)
