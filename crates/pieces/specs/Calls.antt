-- A caller that hands on bytes in pieces, one call after the other, with one buffer: what each call leaves, and what it is handed. What a line does to what is
-- known is a parameter.
-- Assumes nothing.
use Rattle.std.specs.Prelude.{ℕ, suc, ◌≤◌, ◌≡◌, List, [], ◌∷◌, ◌++◌, length, take}
use Rattle.memory.specs.Bytes.{Line, longest}
use Rattle.memory.specs.Pieces.{Piece, piece, bytes_in}
use Rattle.pieces.specs.Block.{fronted}

-- What a call leaves: what is known, how many bytes of the line that is being read are kept, and the buffer, at whose front they stand
pub record Left (S : Type 0) : Type 0 where
  pub known : S
  pub kept : ℕ
  pub buffer : List ℕ

-- before the first call nothing is kept
unfoldable pub started : {S : Type 0} → S → List ℕ → Left S
started s buffer = record { known = s; kept = 0; buffer = buffer }

-- what is left stands for what is known after some bytes
unfoldable pub stands_for : {S : Type 0} → Left S → Piece S
stands_for l = piece l.known (take l.kept l.buffer)

-- what is known after the filled part of a buffer, which begins with the kept bytes
unfoldable pub filled_read : {S : Type 0} → (S → Line → S) → S → ℕ → List ℕ → Piece S
filled_read line s filled buffer = bytes_in line (piece s []) (take filled buffer)

-- One call: what it leaves of the filled part of a buffer, and how many bytes are kept at most
pub record Advanced {S : Type 0} (line : S → Line → S) (s : S) (filled : ℕ) (before : List ℕ) (l : Left S) : Type 0 where
  pub known : l.known ≡ (filled_read line s filled before).known
  pub count : l.kept ≡ length (filled_read line s filled before).pending
  pub buffer : l.buffer ≡ fronted (filled_read line s filled before).pending before
  pub short : l.kept ≤ suc longest
  pub within : l.kept ≤ length before

-- What a call is handed, and what it leaves: the caller puts bytes behind the kept ones, which fills a part of the buffer
pub record Call (S : Type 0) : Type 0 where
  pub bytes : List ℕ
  pub filled : ℕ
  pub buffer : List ℕ
  pub left : Left S

-- Calls one after the other: each is handed what the call before it left, with the kept bytes in front of those that follow. The buffer's length, and what it
-- holds behind its filled part, are free
unfoldable pub Calls : {S : Type 0} → (S → Line → S) → Left S → List (Call S) → Type 0
Calls line l [] = Unit
Calls line l (c ∷ cs) =
    ((take c.filled c.buffer ≡ take l.kept l.buffer ++ c.bytes) × Advanced line l.known c.filled c.buffer c.left)
    × Calls line c.left cs

-- the bytes that the calls are handed, joined
unfoldable pub joined : {S : Type 0} → List (Call S) → List ℕ
joined [] = []
joined (c ∷ cs) = c.bytes ++ joined cs

-- what the last call leaves
unfoldable pub last_left : {S : Type 0} → Left S → List (Call S) → Left S
last_left l [] = l
last_left l (c ∷ cs) = last_left c.left cs
