-- The digits of a number as they are laid into an array from its end: one turn of the loop, and the
-- last digit.
-- Assumes nothing.
use mathlib.Core.Path.{◌≡◌, sym, ap, ap₂, ◌∙◌}
use mathlib.Core.List.{List, ◌∷◌}
use Prim.Native.Nat.{ℕ, zero, suc, ◌+◌, ◌-◌, ◌*◌, ◌/◌, ◌%◌, ◌^◌, ◌≤◌, ◌<◌}
use native.Mathlib.Nat.{pow-suc}
use native.Mathlib.Numerals.{add-one}
use native.Mathlib.Omega.{arith}
use lib.ListN.{length, set, take, drop, length-set, length-drop, drop_of_length-le}
use lib.Seq.{take_all, drop-cons, drop-set-lt, get_or-set_same}
use Rattle.memory.specs.Print.{digits_onto, number_text}
use Rattle.memory.proofs.Decimal.{digit_last, digit_more}

-- a slice from the place that was written on
drop_set : (l : List ℕ) (i v : ℕ) → i < length l → drop i (set l i v) ≡ v ∷ drop (i + 1) l
drop_set l i v h =
    drop-cons (set l i v) i 0 (omega (arith, length-set l i v))
    ∙ ap₂ (λ (x : ℕ) (r : List ℕ). x ∷ r) (get_or-set_same l i v 0 h) (drop-set-lt (suc i) l i v (omega arith) ∙ ap (λ (k : ℕ). drop k l) (sym (add-one i)))

-- What stands in the array after the digits behind `first`: `left` is still to come, and has at
-- most first + 1 digits.
pub record Laid (n : ℕ) (digits : List ℕ) (first left : ℕ) : Type 0 where
  pub size : length digits ≡ 20
  pub inside : first ≤ 19
  pub small : left < 10 ^ (first + 1)
  pub text : digits_onto (first + 1) left (drop (first + 1) digits) ≡ number_text n

-- at the start nothing stands there
pub laid_none : (n : ℕ) (digits : List ℕ) → length digits ≡ 20 → n < 2 ^ 64 → Laid n digits 19 n
unfolding number_text
laid_none n digits e h = record {
  size = e;
  inside = omega arith;
  small = omega arith;
  text = ap (digits_onto 20 n) (drop_of_length-le digits {i = 20} (omega arith));
}

-- a number of one digit is below 10
room_for : (first left : ℕ) → left < 10 ^ (first + 1) → 9 < left → 1 ≤ first
room_for zero left small h = absurd (omega arith)
room_for (suc first) left small h = omega arith

-- there is room for the digits to come
pub laid_room : {n : ℕ} {digits : List ℕ} {first left : ℕ} → Laid n digits first left → 9 < left → 1 ≤ first
laid_room {n} {digits} {first} {left} l h = room_for first left l.small h

-- a digit before which there are more
pub laid_more : {n : ℕ} {digits : List ℕ} {first left : ℕ} → Laid n digits first left → 9 < left
    → Laid n (set digits first (48 + left % 10)) (first - 1) (left / 10)
laid_more {n} {digits} {first} {left} l h =
    let room : 1 ≤ first = laid_room l h in
    let next : first - 1 + 1 ≡ first = omega arith in
    let power : 10 ^ (first + 1) ≡ 10 ^ first * 10 = ap (λ (k : ℕ). 10 ^ k) (add-one first) ∙ pow-suc 10 first in
    let below : left / 10 < 10 ^ first = omega (arith, l.small) in
    let laid : drop (first - 1 + 1) (set digits first (48 + left % 10)) ≡ (48 + left % 10) ∷ drop (first + 1) digits =
    ap (λ (k : ℕ). drop k (set digits first (48 + left % 10))) next ∙ drop_set digits first (48 + left % 10) (omega (arith, l.size, l.inside))
    in
    record {
      size = length-set digits first (48 + left % 10) ∙ l.size;
      inside = omega (arith, l.inside);
      small = rw next below;
      text =
          ap₂ (λ (k : ℕ) (r : List ℕ). digits_onto k (left / 10) r) next laid
          ∙ sym (digit_more first left (drop (first + 1) digits) (omega arith))
          ∙ ap (λ (k : ℕ). digits_onto k left (drop (first + 1) digits)) (omega arith)
          ∙ l.text;
    }

-- the first digit
pub laid_last : {n : ℕ} {digits : List ℕ} {first left : ℕ} → Laid n digits first left → left ≤ 9
    → drop first (set digits first (48 + left)) ≡ number_text n
laid_last {n} {digits} {first} {left} l h =
    drop_set digits first (48 + left) (omega arith)
    ∙ sym (digit_last first left (drop (first + 1) digits) (omega arith))
    ∙ ap (λ (k : ℕ). digits_onto k left (drop (first + 1) digits)) (omega arith)
    ∙ l.text

-- and all of them, from there to the array's end
pub laid_text : {n : ℕ} {digits : List ℕ} {first left : ℕ} → Laid n digits first left → left ≤ 9
    → take (20 - first) (drop first (set digits first (48 + left))) ≡ number_text n
laid_text {n} {digits} {first} {left} l h =
    take_all (20 - first) (drop first (set digits first (48 + left)))
    (omega (arith, length-drop first (set digits first (48 + left)), length-set digits first (48 + left), l.size))
    ∙ laid_last l h
