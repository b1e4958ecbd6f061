-- Lines read from bytes that come in pieces: what is known after some bytes, one more byte, and the end of input. Pieces may be cut anywhere. What a whole
-- line does to what is known is a parameter.
-- Assumes nothing.
use Rattle.std.specs.Prelude.{ℕ, suc, true, false, cond, List, [], ◌∷◌, ◌++◌, eqb, take}
use Rattle.memory.specs.Bytes.{Line, longest, feed}

-- what is kept of a line's text: no more bytes than show that it is too long
unfoldable pub cut : List ℕ → List ℕ
cut text = take (suc longest) text

-- What is known after some bytes: what the whole lines leave, and what is kept of the line that is being read
pub record Piece (S : Type 0) : Type 0 where
  pub known : S
  pub pending : List ℕ

unfoldable pub piece : {S : Type 0} → S → List ℕ → Piece S
piece s bytes = record { known = s; pending = bytes }

-- one byte more: a line feed ends the line, any other byte is kept
unfoldable pub byte_in : {S : Type 0} → (S → Line → S) → Piece S → ℕ → Piece S
byte_in line v b =
    cond (eqb b feed) (piece (line v.known (record { text = v.pending; ended = true })) [])
    (piece v.known (cut (v.pending ++ b ∷ [])))

unfoldable pub bytes_in : {S : Type 0} → (S → Line → S) → Piece S → List ℕ → Piece S
bytes_in line v [] = v
bytes_in line v (b ∷ bs) = bytes_in line (byte_in line v b) bs

-- the end of input: a line without its line feed is a line all the same
unfoldable pub last_in : {S : Type 0} → (S → Line → S) → S → List ℕ → S
last_in line s [] = s
last_in line s (b ∷ bs) = line s (record { text = b ∷ bs; ended = false })

unfoldable pub end_in : {S : Type 0} → (S → Line → S) → Piece S → S
end_in line v = last_in line v.known v.pending
