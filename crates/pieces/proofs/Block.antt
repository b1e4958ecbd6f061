-- What is kept of an unfinished line: the bytes that are moved to the front of a buffer.
-- Assumes nothing.
use Rattle.std.proofs.Common.{◌≡◌, ℕ, zero, suc, ◌+◌, ◌-◌, ◌≤◌, ◌<◌, min, List, [], ◌∷◌, ◌++◌, length, take, drop, sym, ap, ap₂, ◌∙◌, arith}
use Rattle.std.proofs.lemmas.List.{length-take, length-drop, drop-take, take_min}
use Rattle.std.specs.List.{copy_within}
use native.Mathlib.Nat.{zero-min, min-zero, suc-min-suc}
use lib.ListN.{drop_of_length-le}
use lib.Seq.{take-nil}
use Rattle.memory.specs.Bytes.{longest}
use Rattle.memory.specs.Pieces.{cut}
use Rattle.pieces.specs.Block.{rest_of, fronted}

take_of_take : (m n : ℕ) (l : List ℕ) → take m (take n l) ≡ take (min m n) l
take_of_take zero n l = ap (λ (k : ℕ). take k l) (sym (zero-min n))
take_of_take (suc m) zero l = ap (λ (k : ℕ). take k l) (sym (min-zero (suc m)))
take_of_take (suc m) (suc n) [] = ap (λ (k : ℕ). take {A = ℕ} k []) (sym (suc-min-suc m n))
take_of_take (suc m) (suc n) (x ∷ xs) =
    ap {B = List ℕ} (λ t. x ∷ t) (take_of_take m n xs) ∙ ap (λ (k : ℕ). take k (x ∷ xs)) (sym (suc-min-suc m n))

-- as many bytes as are counted, copied to the front
pub copied : (buffer : List ℕ) (from count : ℕ) → copy_within buffer from (from + count) 0 ≡ take count (drop from buffer) ++ drop count buffer
copied buffer from count =
    let many : from + count - from ≡ count = omega arith in
    let behind : 0 + (from + count - from) ≡ count = omega arith in
    ap₂ (λ (n m : ℕ). take n (drop from buffer) ++ drop m buffer) many behind

module _ (buffer : List ℕ) (from end last : ℕ) (ends : last ≡ min end (length buffer)) where
  -- a line that ends where it begins, or before
  pub rest_none : last ≤ from → rest_of from end buffer ≡ []
  unfolding rest_of cut
  rest_none h =
      let past : length (take end buffer) ≤ from = omega (arith, length-take end buffer) in
      ap cut (drop_of_length-le (take end buffer) past) ∙ take-nil (suc longest)

  -- and one that does not
  module _ (count : ℕ) (some : from < last) (size : count ≡ min (last - from) (suc longest)) where
    rest_moved : rest_of from end buffer ≡ take count (drop from buffer)
    unfolding rest_of cut longest
    rest_moved =
        let swapped : min 81 (last - from) ≡ count = omega arith in
        let onto : last ≡ from + (last - from) = omega arith in
        ap (λ (l : List ℕ). take 81 (drop from l)) (sym (take_min end buffer) ∙ ap (λ (n : ℕ). take n buffer) (sym ends ∙ onto))
        ∙ ap (take 81) (drop-take from (last - from) buffer)
        ∙ take_of_take 81 (last - from) (drop from buffer)
        ∙ ap (λ (n : ℕ). take n (drop from buffer)) swapped

    moved_length : length (take count (drop from buffer)) ≡ count
    unfolding longest
    moved_length = rw (length-take count (drop from buffer), length-drop from buffer) (omega arith)

    pub rest_length : count ≡ length (rest_of from end buffer)
    rest_length = sym (ap length rest_moved ∙ moved_length)

    pub rest_front : take count (drop from buffer) ++ drop count buffer ≡ fronted (rest_of from end buffer) buffer
    unfolding fronted
    rest_front =
        ap (λ (n : ℕ). take count (drop from buffer) ++ drop n buffer) (sym moved_length)
        ∙ ap (λ (front : List ℕ). front ++ drop (length front) buffer) (sym rest_moved)
