-- Line feeds in a block: where the first one stands, and what the bytes up to it and without one do to lines that are read in pieces.
-- Assumes nothing.
use Prim.Native.Nat.{ℕ, suc, ◌+◌, ◌-◌, ◌≤◌, ◌<◌}
use native.Mathlib.Nat.{not-suc-le-zero, le_of_suc-le-suc}
use native.Mathlib.Omega.{arith}
use mathlib.Core.Path.{◌≡◌, refl, sym, ◌∙◌, ap}
use mathlib.Core.Bool.{Bool, true, false, cond}
use mathlib.Core.List.{List, [], ◌∷◌, ◌++◌, append_assoc, append-nil}
use lib.Dec.{eqb}
use lib.ListN.{length, take, drop, length-drop, take-append-drop}
use lib.Seq.{take-add}
use Rattle.std.specs.Prelude.{None, Some}
use Rattle.std.specs.List.{position_or_len}
use Rattle.std.proofs.lemmas.Grind.{common_steps}
use Rattle.std.proofs.lemmas.List.Recursion.{is_position_or_len}
use Rattle.memory.specs.Bytes.{Line, feed, longest}
use Rattle.memory.specs.Pieces.{cut, Piece, piece, byte_in, bytes_in}
use Rattle.memory.proofs.Pieces.{line_with, pieces_cut, byte_feeds, byte_kept}
use Rattle.pieces.specs.Block.{until_feed, feed_at}

-- the first line feed is the first byte that is one
pub until_feed_is : (xs : List ℕ) → until_feed xs ≡ position_or_len (λ b. eqb b feed) xs
unfolding until_feed
until_feed_is = is_position_or_len until_feed (λ b. eqb b feed) refl (λ b bs. ap (λ (n : ℕ). cond (eqb b feed) 0 n) (omega arith))

-- it stands in the text, or at its end
pub feed_within : (xs : List ℕ) → until_feed xs ≤ length xs
unfolding until_feed
feed_within [] = omega arith
feed_within (x ∷ xs) = go (eqb x feed) (feed_within xs)
  where
    go : (b : Bool) → until_feed xs ≤ length xs → cond b 0 (suc (until_feed xs)) ≤ suc (length xs)
    go true h = omega arith
    go false h = omega arith

-- where it is found, and where there is none
pub feed_found : (block : List ℕ) (from at : ℕ) → at ≡ from + until_feed (drop from block) → at < length block → Some at ≡ feed_at from block
unfolding feed_at
feed_found block from at e h = grind (arith, common_steps, length-drop from block, feed_within (drop from block))

pub feed_none : (block : List ℕ) (from at : ℕ) → at ≡ from + until_feed (drop from block) → length block ≤ at → None ≡ feed_at from block
unfolding feed_at
feed_none block from at e h = grind (arith, common_steps, length-drop from block, feed_within (drop from block))

-- and what it says to a caller
pub feed_some : (block : List ℕ) (from at : ℕ) → Some at ≡ feed_at from block → (at ≡ from + until_feed (drop from block)) × (at < length block)
unfolding feed_at
feed_some block from at e = grind (arith, common_steps, length-drop from block)

pub feed_over : (block : List ℕ) (from : ℕ) → None ≡ feed_at from block → until_feed (drop from block) ≡ length (drop from block)
unfolding feed_at
feed_over block from e = grind (arith, common_steps, length-drop from block, feed_within (drop from block))

-- Where a line reads the same from what is kept of it
module _ {S : Type 0} (line : S → Line → S)
    (kept : (s : S) (text : List ℕ) (ended : Bool) → line s (line_with (cut text) ended) ≡ line s (line_with text ended))
  where
    -- the bytes through the first line feed end a line
    line_read : (s : S) (text xs : List ℕ) → until_feed xs < length xs
        → bytes_in line (piece s (cut text)) (take (suc (until_feed xs)) xs) ≡ piece (line s (line_with (text ++ take (until_feed xs) xs) true)) []
    unfolding until_feed bytes_in
    line_read s text [] h = absurd (not-suc-le-zero h)
    line_read s text (x ∷ xs) h = go (eqb x feed) refl h (line_read s (text ++ x ∷ []) xs)
      where
        L : List ℕ → Piece S
        L t = piece (line s (line_with t true)) []

        u : ℕ
        u = until_feed xs

        go : (b : Bool) → eqb x feed ≡ b → cond b 0 (suc u) < suc (length xs)
            → (u < length xs → bytes_in line (piece s (cut (text ++ x ∷ []))) (take (suc u) xs) ≡ L ((text ++ x ∷ []) ++ take u xs))
            → bytes_in line (byte_in line (piece s (cut text)) x) (take (cond b 0 (suc u)) xs) ≡ L (text ++ take (cond b 0 (suc u)) (x ∷ xs))
        go true e l more = byte_feeds line kept s text x e ∙ ap L (sym (append-nil text))
        go false e l more = rw (byte_kept line s text x e) (more (le_of_suc-le-suc l) ∙ ap L (append_assoc text (x ∷ []) (take u xs)))

    -- bytes without a line feed are kept
    rest_read : (s : S) (text xs : List ℕ) → until_feed xs ≡ length xs → bytes_in line (piece s (cut text)) xs ≡ piece s (cut (text ++ xs))
    unfolding until_feed bytes_in
    rest_read s text [] h = ap (λ (t : List ℕ). piece s (cut t)) (sym (append-nil text))
    rest_read s text (x ∷ xs) h = go (eqb x feed) refl h (rest_read s (text ++ x ∷ []) xs)
      where
        R : List ℕ → Piece S
        R t = piece s (cut t)

        u : ℕ
        u = until_feed xs

        go : (b : Bool) → eqb x feed ≡ b → cond b 0 (suc u) ≡ suc (length xs)
            → (u ≡ length xs → bytes_in line (R (text ++ x ∷ [])) xs ≡ R ((text ++ x ∷ []) ++ xs))
            → bytes_in line (byte_in line (R text) x) xs ≡ R (text ++ x ∷ xs)
        go true e l more = absurd (omega arith)
        go false e l more = rw (byte_kept line s text x e) (more (omega arith) ∙ ap R (append_assoc text (x ∷ []) xs))

    -- one line more of a block: the line between the used bytes and the next line feed
    pub lines_more : (s r w : S) (block : List ℕ) (used at : ℕ) → bytes_in line (piece s []) (take used block) ≡ piece r []
        → at ≡ used + until_feed (drop used block) → at < length block → w ≡ line r (line_with (take (at - used) (drop used block)) true)
        → bytes_in line (piece s []) (take (at + 1) block) ≡ piece w []
    unfolding cut longest
    lines_more s r w block used at read here within next =
        let u = until_feed (drop used block) in
        let rest = drop used block in
        let through : at + 1 ≡ used + suc u = omega arith in
        let inside : u < length rest = rw (length-drop used block) (omega arith) in
        let text : u ≡ at - used = omega arith in
        ap (λ (n : ℕ). bytes_in line (piece s []) (take n block)) through
        ∙ ap (bytes_in line (piece s [])) (take-add used (suc u) block)
        ∙ pieces_cut line (piece s []) (take used block) (take (suc u) rest)
        ∙ ap (λ (v : Piece S). bytes_in line v (take (suc u) rest)) read
        ∙ line_read r [] rest inside
        ∙ ap (λ (n : ℕ). piece (line r (line_with (take n rest) true)) []) text
        ∙ ap (λ (x : S). piece x []) (sym next)

    -- the whole lines of a block, and then the rest of it, which has no line feed
    pub block_read : (s r : S) (block : List ℕ) (used : ℕ) → bytes_in line (piece s []) (take used block) ≡ piece r []
        → until_feed (drop used block) ≡ length (drop used block) → bytes_in line (piece s []) block ≡ piece r (cut (drop used block))
    unfolding cut longest
    block_read s r block used read rest =
        ap (bytes_in line (piece s [])) (sym (take-append-drop used block))
        ∙ pieces_cut line (piece s []) (take used block) (drop used block)
        ∙ ap (λ (v : Piece S). bytes_in line v (drop used block)) read
        ∙ rest_read r [] (drop used block) rest
