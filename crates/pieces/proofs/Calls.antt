-- Calls that hand on bytes in pieces: where the whole lines of the filled part of a buffer are read and its rest is moved to the front, a call leaves what the
-- definition says; and calls one after the other leave what all their bytes together leave.
-- Assumes nothing.
use Prim.Native.Nat.{ℕ, ◌≤◌, min}
use native.Mathlib.Omega.{arith}
use mathlib.Core.Path.{◌≡◌, refl, sym, ◌∙◌, ap}
use mathlib.Core.Bool.{Bool, false}
use mathlib.Core.List.{List, [], ◌∷◌, ◌++◌, append_assoc, append-nil}
use lib.ListN.{length, take, drop, length-take, length-drop}
use lib.Seq.{take-append_seam}
use Rattle.memory.specs.Bytes.{Line, longest}
use Rattle.memory.specs.Pieces.{cut, Piece, piece, bytes_in, last_in}
use Rattle.memory.proofs.Pieces.{line_with, Settled, settled_line, settled_bytes, read_again, pieces_cut}
use Rattle.pieces.specs.Block.{rest_of, fronted, LinesTaken}
use Rattle.pieces.specs.Calls.{Left, started, stands_for, filled_read, Advanced, Call, Calls, joined, last_left}
use Rattle.pieces.specs.Statements.{CallsRead}
use Rattle.std.proofs.lemmas.List.{take_min}
use Rattle.pieces.proofs.Feeds.{block_read}

-- the last line, where the input ends between two lines, and where it does not
module _ {S : Type 0} (line : S → Line → S) (s : S) where
  pub last_none : (rest : List ℕ) → length rest ≡ 0 → s ≡ last_in line s rest
  unfolding last_in
  last_none [] h = refl
  last_none (b ∷ bs) h = absurd (omega arith)

  pub last_some : (rest : List ℕ) → (length rest ≡ 0 → ⊥) → line s (record { text = rest; ended = false }) ≡ last_in line s rest
  unfolding last_in
  last_some [] h = absurd (h refl)
  last_some (b ∷ bs) h = refl

-- Where a line reads the same from what is kept of it
module _ {S : Type 0} (line : S → Line → S)
    (kept : (s : S) (text : List ℕ) (ended : Bool) → line s (line_with (cut text) ended) ≡ line s (line_with text ended))
    (s : S)
    (filled : ℕ)
    (buffer : List ℕ)
    (end : ℕ)
    (ends : end ≡ min filled (length buffer))
    (r : S)
    (used : ℕ)
    (t : LinesTaken line s (take end buffer) r used)
  where
    -- what is known after the filled part
    filled_read_lem : filled_read line s filled buffer ≡ piece r (rest_of used end buffer)
    unfolding filled_read rest_of
    filled_read_lem =
        ap (bytes_in line (piece s [])) (sym (take_min filled buffer) ∙ ap (λ (n : ℕ). take n buffer) (sym ends))
        ∙ block_read line kept s r (take end buffer) used t.lines t.rest

    rest_short : (length (rest_of used end buffer) ≤ 81) × (length (rest_of used end buffer) ≤ length buffer)
    unfolding rest_of cut longest
    rest_short =
        let part = length-take 81 (drop used (take end buffer)) in
        let rest = length-drop used (take end buffer) in
        let whole = length-take end buffer in
        (omega arith, omega arith)

    pub advanced : (count : ℕ) → count ≡ length (rest_of used end buffer) → (after : List ℕ) → after ≡ fronted (rest_of used end buffer) buffer
        → Advanced line s filled buffer (record { known = r; kept = count; buffer = after })
    unfolding piece longest
    advanced count size after e = record {
      known = rw filled_read_lem refl;
      count = rw filled_read_lem size;
      buffer = rw filled_read_lem e;
      short = omega (arith, rest_short.0);
      within = omega (arith, rest_short.1);
    }

module _ {S : Type 0} (line : S → Line → S) where
  -- what a call leaves stands for what is known after the filled part
  advanced_stands : (s : S) (filled : ℕ) (before : List ℕ) (l : Left S) → Advanced line s filled before l → stands_for l ≡ filled_read line s filled before
  unfolding stands_for fronted piece
  advanced_stands s filled before l a =
      let v = filled_read line s filled before in
      rw (a.known, a.count, a.buffer) (ap (piece v.known) (take-append_seam v.pending (drop (length v.pending) before)))

  -- one call more
  pub call_more : (s : S) (seen : List ℕ) (l : Left S) → stands_for l ≡ bytes_in line (piece s []) seen → (c : Call S)
      → take c.filled c.buffer ≡ take l.kept l.buffer ++ c.bytes → Advanced line l.known c.filled c.buffer c.left
      → stands_for c.left ≡ bytes_in line (piece s []) (seen ++ c.bytes)
  unfolding filled_read stands_for piece
  call_more s seen l read c behind a =
      let settled : Settled line (stands_for l) = rw read (settled_bytes line (piece s []) seen (settled_line line s)) in
      advanced_stands l.known c.filled c.buffer c.left a
      ∙ ap (bytes_in line (piece l.known [])) behind
      ∙ read_again line (stands_for l) c.bytes settled
      ∙ ap (λ (v : Piece S). bytes_in line v c.bytes) read
      ∙ sym (pieces_cut line (piece s []) seen c.bytes)

  calls_more : (s : S) (seen : List ℕ) (l : Left S) → stands_for l ≡ bytes_in line (piece s []) seen → (cs : List (Call S)) → Calls line l cs
      → stands_for (last_left l cs) ≡ bytes_in line (piece s []) (seen ++ joined cs)
  unfolding Calls joined last_left
  calls_more s seen l read [] h = read ∙ ap (bytes_in line (piece s [])) (sym (append-nil seen))
  calls_more s seen l read (c ∷ cs) h =
      calls_more s (seen ++ c.bytes) c.left (call_more s seen l read c h.0.0 h.0.1) cs h.1
      ∙ ap (bytes_in line (piece s [])) (append_assoc seen c.bytes (joined cs))

-- the calls from the start
pub calls_read : CallsRead
unfolding started stands_for bytes_in piece
calls_read S line s buffer calls h = calls_more line s [] (started s buffer) refl calls h
