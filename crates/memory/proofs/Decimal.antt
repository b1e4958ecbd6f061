-- Numbers as digits: what the printed digits are, and that they read back.
-- Assumes nothing.
use mathlib.Core.Path.{◌≡◌, refl, sym, ap, ◌∙◌}
use mathlib.Core.Bool.{Bool, true, false, cond, or-true}
use mathlib.Core.List.{List, [], ◌∷◌}
use Prim.Native.Nat.{ℕ, zero, suc, ◌+◌, ◌*◌, ◌/◌, ◌%◌, ◌^◌, ◌≤◌, ◌<◌}
use native.Mathlib.Nat.{pow-suc}
use native.Mathlib.Omega.{arith}
use lib.Dec.{ltb}
use lib.ListN.{length, get_or}
use borrow.Author.Tests.{ne_eqb, le-leb, lt-ltb, le-ltb, ltb-true, ltb-false}
use Rattle.memory.specs.Bytes.{decimal_from, digit, digits, numeral}
use Rattle.memory.specs.Print.{digits_onto, number_text}

-- the last digit to print, and a digit before which there are more
pub digit_last : (most n : ℕ) (rest : List ℕ) → n < 10 → digits_onto (suc most) n rest ≡ (48 + n) ∷ rest
unfolding digits_onto
digit_last most n rest h =
    ap (λ (b : Bool). cond b ((48 + n) ∷ rest) (digits_onto most (n / 10) ((48 + n % 10) ∷ rest))) (lt-ltb n 10 h)

pub digit_more : (most n : ℕ) (rest : List ℕ) → 10 ≤ n → digits_onto (suc most) n rest ≡ digits_onto most (n / 10) ((48 + n % 10) ∷ rest)
unfolding digits_onto
digit_more most n rest h =
    ap (λ (b : Bool). cond b ((48 + n) ∷ rest) (digits_onto most (n / 10) ((48 + n % 10) ∷ rest))) (le-ltb n 10 h)

-- a digit before digits
digit_digits : (d : ℕ) (rest : List ℕ) → d < 10 → digits rest ≡ true → digits ((48 + d) ∷ rest) ≡ true
unfolding digits digit
digit_digits d rest h e = simp (le-leb 48 (48 + d) (omega arith), le-leb (48 + d) 57 (omega arith), e)

-- what is printed before digits is digits
digits_digits : (most n : ℕ) (rest : List ℕ) → digits rest ≡ true → digits (digits_onto most n rest) ≡ true
unfolding digits_onto
digits_digits zero n rest e = e
digits_digits (suc most) n rest e =
    choose (ltb n 10) refl (digits_digits most (n / 10) ((48 + n % 10) ∷ rest) (digit_digits (n % 10) rest (omega arith) e))
  where
    choose : (b : Bool) → ltb n 10 ≡ b → digits (digits_onto most (n / 10) ((48 + n % 10) ∷ rest)) ≡ true
        → digits (digits_onto (suc most) n rest) ≡ true
    choose true t more = ap digits (digit_last most n rest (ltb-true n 10 t)) ∙ digit_digits n rest (ltb-true n 10 t) e
    choose false t more = ap digits (digit_more most n rest (ltb-false n 10 t)) ∙ more

pub number_digits : (n : ℕ) → digits (number_text n) ≡ true
unfolding number_text digits
number_digits n = digits_digits 20 n [] refl

-- How a number of at most `most` digits and one more is printed: it is the first digit, or its last digit comes after the others.
data Printed : ℕ → ℕ → Type 0 where
  first : {most n : ℕ} → n < 10 → Printed most n
  then : {most n : ℕ} → 10 ≤ n → Printed most (n / 10) → Printed (suc most) n

printed : (most n : ℕ) → n < 10 ^ suc most → Printed most n
printed zero n h = first h
printed (suc most) n h = split (printed most (n / 10) (omega (arith, h, pow-suc 10 (suc most)))) (ltb n 10) refl
  where
    split : Printed most (n / 10) → (b : Bool) → ltb n 10 ≡ b → Printed (suc most) n
    split others true e = first (ltb-true n 10 e)
    split others false e = then (ltb-false n 10 e) others

-- a digit's value, after the number of the digits before it
digit_value : (n d : ℕ) (rest : List ℕ) → decimal_from n ((48 + d) ∷ rest) ≡ decimal_from (n * 10 + d) rest
unfolding decimal_from
digit_value n d rest = ap (λ (k : ℕ). decimal_from (n * 10 + k) rest) (omega arith)

-- the digits of a number, before other digits, read as the number and then those
digits_value : {most n : ℕ} → Printed most n → (rest : List ℕ) → decimal_from 0 (digits_onto (suc most) n rest) ≡ decimal_from n rest
digits_value (first {most = most} {n = n} h) rest =
    ap (decimal_from 0) (digit_last most n rest h) ∙ digit_value 0 n rest ∙ ap (λ (k : ℕ). decimal_from k rest) (omega arith)
digits_value (then {most = most} {n = n} h p) rest =
    ap (decimal_from 0) (digit_more (suc most) n rest h)
    ∙ digits_value p ((48 + n % 10) ∷ rest)
    ∙ digit_value (n / 10) (n % 10) rest
    ∙ ap (λ (k : ℕ). decimal_from k rest) (omega arith)

-- how many they are
digits_length : {most n : ℕ} → Printed most n → (rest : List ℕ)
    → (length (digits_onto (suc most) n rest) ≤ suc most + length rest) × (suc (length rest) ≤ length (digits_onto (suc most) n rest))
digits_length (first {most = most} {n = n} h) rest =
    let e : length (digits_onto (suc most) n rest) ≡ suc (length rest) = ap length (digit_last most n rest h) in
    (omega arith, omega arith)
digits_length (then {most = most} {n = n} h p) rest =
    let e : length (digits_onto (suc (suc most)) n rest) ≡ length (digits_onto (suc most) (n / 10) ((48 + n % 10) ∷ rest)) =
    ap length (digit_more (suc most) n rest h)
    in
    let others = digits_length p ((48 + n % 10) ∷ rest) in
    (omega (arith, others.0), omega (arith, others.1))

-- the first of them is no 0, unless the number is 0
first_digit : {most n : ℕ} → Printed most n → (rest : List ℕ) → 1 ≤ n → get_or (digits_onto (suc most) n rest) 0 0 ≡ 48 → ⊥
first_digit (first {most = most} {n = n} h) rest pos e =
    let d : 48 + n ≡ 48 = sym (ap (λ (l : List ℕ). get_or l 0 0) (digit_last most n rest h)) ∙ e in
    omega arith
first_digit (then {most = most} {n = n} h p) rest pos e =
    first_digit p ((48 + n % 10) ∷ rest) (omega arith) (sym (ap (λ (l : List ℕ). get_or l 0 0) (digit_more (suc most) n rest h)) ∙ e)

-- room for more digits than there are changes nothing
digits_enough : {most n : ℕ} → Printed most n → (fuel : ℕ) (rest : List ℕ) → most ≤ fuel → digits_onto (suc fuel) n rest ≡ digits_onto (suc most) n rest
digits_enough (first {most = most} {n = n} h) fuel rest le = digit_last fuel n rest h ∙ sym (digit_last most n rest h)
digits_enough (then {most = most} {n = n} h p) zero rest le = absurd (omega arith)
digits_enough (then {most = most} {n = n} h p) (suc fuel) rest le =
    digit_more (suc fuel) n rest h
    ∙ digits_enough p fuel ((48 + n % 10) ∷ rest) (omega arith)
    ∙ sym (digit_more (suc most) n rest h)

-- the numbers below this have at most 10 digits
abbrev pub ten_digits : ℕ
ten_digits = 10000000000

-- a number of at most 10 digits is printed as at most 10 digits, which read back
ten : (n : ℕ) → n < ten_digits → Printed 9 n
ten n h = printed 9 n h

number_ten : (n : ℕ) → n < ten_digits → number_text n ≡ digits_onto 10 n []
unfolding number_text
number_ten n h = digits_enough (ten n h) 19 [] (omega arith)

pub number_length : (n : ℕ) → n < ten_digits → (1 ≤ length (number_text n)) × (length (number_text n) ≤ 10)
number_length n h =
    let e : length (number_text n) ≡ length (digits_onto 10 n []) = ap length (number_ten n h) in
    let bounds = digits_length (ten n h) [] in
    (omega (arith, bounds.1), omega (arith, bounds.0))

pub number_value : (n : ℕ) → n < ten_digits → decimal_from 0 (number_text n) ≡ n
unfolding decimal_from
number_value n h = ap (decimal_from 0) (number_ten n h) ∙ digits_value (ten n h) []

-- 2: it is a number, without a leading zero
pub number_numeral : (n : ℕ) → n < ten_digits → numeral (number_text n) ≡ true
unfolding numeral number_text digits_onto digits digit
number_numeral zero h = refl
number_numeral (suc n) h =
    let text : List ℕ = number_text (suc n) in
    let bounds = number_length (suc n) h in
    let leads : get_or text 0 0 ≡ 48 → ⊥ = λ e. first_digit (ten (suc n) h) [] (omega arith) (sym (ap (λ (l : List ℕ). get_or l 0 0) (number_ten (suc n) h)) ∙ e) in
    simp
    (le-leb 1 (length text) bounds.0, le-leb (length text) 10 bounds.1, number_digits (suc n), ne_eqb (get_or text 0 0) 48 leads, or-true)
