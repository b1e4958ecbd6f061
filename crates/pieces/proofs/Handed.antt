-- Bytes can be handed on in any pieces: each call is handed a buffer that holds the kept bytes, the piece, and no more.
-- Assumes nothing.
use Prim.Native.Nat.{ℕ, suc, ◌+◌, ◌≤◌}
use native.Mathlib.Omega.{arith}
use mathlib.Core.Path.{◌≡◌, refl, ap}
use mathlib.Core.Bool.{Bool, true, false, cond}
use mathlib.Core.List.{List, [], ◌∷◌, ◌++◌, map}
use lib.Dec.{eqb}
use lib.ListN.{length, take, length-take, length-append}
use lib.Seq.{take_all}
use Rattle.memory.specs.Bytes.{Line, feed, longest}
use Rattle.memory.specs.Pieces.{cut, Piece, piece, byte_in, bytes_in}
use Rattle.memory.proofs.Pieces.{line_with, settled_line, settled_bytes}
use Rattle.pieces.specs.Block.{fronted}
use Rattle.pieces.specs.Calls.{Left, started, filled_read, Advanced, Call, Calls}
use Rattle.pieces.specs.Statements.{CallsExist}

module _ {S : Type 0} (line : S → Line → S) where
  -- no more bytes are kept than are read
  byte_few : (v : Piece S) (b : ℕ) → length (byte_in line v b).pending ≤ suc (length v.pending)
  unfolding byte_in piece cut
  byte_few v b = go (eqb b feed)
    where
      go : (x : Bool)
          → length (cond x (piece (line v.known (line_with v.pending true)) []) (piece v.known (take (suc longest) (v.pending ++ b ∷ [])))).pending
          ≤ suc (length v.pending)
      go true = omega arith
      go false = omega (arith, length-take (suc longest) (v.pending ++ b ∷ []), length-append v.pending (b ∷ []))

  bytes_few : (v : Piece S) (bs : List ℕ) → length (bytes_in line v bs).pending ≤ length v.pending + length bs
  unfolding bytes_in
  bytes_few v [] = omega arith
  bytes_few v (b ∷ bs) = omega (arith, byte_few v b, bytes_few (byte_in line v b) bs)

  -- what a call leaves of a filled buffer
  left_of : S → List ℕ → Left S
  left_of s buffer =
      let v = filled_read line s (length buffer) buffer in
      record { known = v.known; kept = length v.pending; buffer = fronted v.pending buffer }

  left_advanced : (s : S) (buffer : List ℕ) → Advanced line s (length buffer) buffer (left_of s buffer)
  unfolding filled_read piece left_of
  left_advanced s buffer =
      let bytes = take (length buffer) buffer in
      record {
        known = refl;
        count = refl;
        buffer = refl;
        short = (settled_bytes line (piece s []) bytes (settled_line line s)).short;
        within = omega (arith, bytes_few (piece s []) bytes, length-take (length buffer) buffer);
      }

  -- one call for each piece
  handed : Left S → List (List ℕ) → List (Call S)
  handed l [] = []
  handed l (bytes ∷ rest) =
      let buffer = take l.kept l.buffer ++ bytes in
      let next = left_of l.known buffer in
      record { bytes = bytes; filled = length buffer; buffer = buffer; left = next } ∷ handed next rest

  handed_calls : (l : Left S) (pieces : List (List ℕ)) → Calls line l (handed l pieces)
  unfolding Calls handed
  handed_calls l [] = tt
  handed_calls l (bytes ∷ rest) =
      let buffer = take l.kept l.buffer ++ bytes in
      ((take_all (length buffer) buffer (omega arith), left_advanced l.known buffer), handed_calls (left_of l.known buffer) rest)

  handed_bytes : (l : Left S) (pieces : List (List ℕ)) → map (λ (c : Call S). c.bytes) (handed l pieces) ≡ pieces
  unfolding handed
  handed_bytes l [] = refl
  handed_bytes l (bytes ∷ rest) =
      ap {B = List (List ℕ)} (λ ps. bytes ∷ ps) (handed_bytes (left_of l.known (take l.kept l.buffer ++ bytes)) rest)

pub calls_exist : CallsExist
calls_exist S line s buffer pieces =
    (handed line (started s buffer) pieces, (handed_calls line (started s buffer) pieces, handed_bytes line (started s buffer) pieces))
