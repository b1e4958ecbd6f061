-- A run of digits, byte by byte: what a byte adds to it, where it stops, and how large its number is.
-- Assumes nothing.
use Rattle.std.proofs.Common.{◌≡◌, ℕ, zero, suc, ◌+◌, ◌-◌, ◌*◌, ◌%◌, ◌^◌, ◌<◌, ◌≤◌, Bool, true, false, ◌&&◌, leb, List, [], ◌∷◌, length, get_or, drop, sym, refl, ap, ◌∙◌, add-zero, zero-lt-suc, pow-suc, add-one, arith, drop-cons, le-leb, leb-true}
use native.Mathlib.Nat.{pow-le-pow_right}
use Rattle.memory.specs.Bytes.{digit, decimal_from}
use Rattle.decimal.specs.declared.Number.{Number}
use Rattle.decimal.specs.Numbers.{most, run, digits_of}

-- A byte less 48, modulo 256: at most 9 at a digit alone, and then its number
module _ (b : ℕ) (byte : b < 256) where
  pub digit_other : 9 < (b + 208) % 256 → digit b ≡ false
  unfolding digit
  digit_other above = by (leb 48 b) (leb b 57) refl refl
    where
      by : (low high : Bool) → leb 48 b ≡ low → leb b 57 ≡ high → (low && high) ≡ false
      by true true e f = absurd (omega (arith, leb-true 48 b e, leb-true b 57 f))
      by true false e f = refl
      by false high e f = refl

  pub digit_number : (b + 208) % 256 ≤ 9 → (b + 208) % 256 ≡ b - 48
  digit_number few = omega arith

  pub digit_is : (b + 208) % 256 ≤ 9 → digit b ≡ true
  unfolding digit
  digit_is few = simp (le-leb 48 b (omega arith), le-leb b 57 (omega arith))

-- no digit is left over at a byte that is none
pub run_stops : (text : List ℕ) (k i : ℕ) → i < length text → digit (get_or text i 0) ≡ false → run k (drop i text) ≡ []
unfolding run
run_stops text zero i inside other = refl
run_stops text (suc k) i inside other = rw (drop-cons text i 0 inside, other)

-- a digit is taken into the run
pub run_goes :
    (text : List ℕ) (stop i : ℕ) → i < stop → i < length text → digit (get_or text i 0) ≡ true
    → run (stop - i) (drop i text) ≡ get_or text i 0 ∷ run (stop - (i + 1)) (drop (i + 1) text)
unfolding run
run_goes text stop i before inside is = rw (left, drop-cons text i 0 inside, is, add-one i)
  where
    left : stop - i ≡ suc (stop - (i + 1))
    left = omega arith

-- past its end
pub run_over : (text : List ℕ) (stop i : ℕ) → stop ≤ i → run (stop - i) text ≡ []
unfolding run
run_over text stop i over = rw none
  where
    none : stop - i ≡ 0
    none = omega arith

-- no digits: the number and the position are as they were
pub digits_none : (value i : ℕ) → digits_of value i [] ≡ record { value = value; next = i }
unfolding digits_of decimal_from
digits_none value i = ap {B = Number} (λ n. record { value = value; next = n }) (add-zero i)

-- a digit: the number is taken times ten, and the position moves on
pub digits_more : (value i b : ℕ) (ds : List ℕ) → digits_of value i (b ∷ ds) ≡ digits_of (value * 10 + (b - 48)) (i + 1) ds
unfolding digits_of decimal_from
digits_more value i b ds = ap {B = Number} (λ n. record { value = decimal_from (value * 10 + (b - 48)) ds; next = n }) (omega arith)

-- k digits stand for a number below 10 to the power of k
pub digit_below : (k value d : ℕ) → value < 10 ^ k → d ≤ 9 → value * 10 + d < 10 ^ (k + 1)
digit_below k value d small few = rw (add-one k, pow-suc 10 k) (omega arith)

-- so 18 digits and one more fit 64 bits
pub digits_fit : (k value : ℕ) → value < 10 ^ k → k ≤ 18 → value < 10 ^ 18
digits_fit k value small most = omega (arith, pow-le-pow_right (zero-lt-suc 9) most)

-- Digits are being read from a position on: the number of those before position i, and what those from i on still bring
pub record Running (text : List ℕ) (from stop value i : ℕ) : Type 0 where
  pub begun : from ≤ i
  pub inside : i ≤ stop
  pub small : value < 10 ^ (i - from)
  pub rest : digits_of value i (run (stop - i) (drop i text)) ≡ digits_of 0 from (run (stop - from) (drop from text))

module _ (text : List ℕ) (from stop value i : ℕ) (running : Running text from stop value i) where
  -- its number is one of 18 digits at most where one more is to come
  pub running_fits : i < stop → stop ≤ from + 19 → value < 10 ^ 18
  running_fits more most = digits_fit (i - from) value running.small (omega arith)

  pub running_over : stop ≤ i → record { value = value; next = i } ≡ digits_of 0 from (run (stop - from) (drop from text))
  running_over over = sym (digits_none value i) ∙ ap (digits_of value i) (sym (run_over (drop i text) stop i over)) ∙ running.rest

  module _ (before : i < stop) (within : stop ≤ length text) (byte : get_or text i 0 < 256) where
    -- at a digit the run goes on
    pub running_goes : (get_or text i 0 + 208) % 256 ≤ 9 → Running text from stop (value * 10 + (get_or text i 0 + 208) % 256) (i + 1)
    running_goes few =
        record {
          begun = omega arith;
          inside = omega arith;
          small = rw count (digit_below (i - from) value ((get_or text i 0 + 208) % 256) running.small few);
          rest =
              ap (λ (n : ℕ). digits_of (value * 10 + n) (i + 1) (run (stop - (i + 1)) (drop (i + 1) text))) (digit_number (get_or text i 0) byte few)
              ∙ sym (digits_more value i (get_or text i 0) (run (stop - (i + 1)) (drop (i + 1) text)))
              ∙ ap (digits_of value i) (sym (run_goes text stop i before (omega arith) (digit_is (get_or text i 0) byte few)))
              ∙ running.rest;
        }
      where
        count : i + 1 - from ≡ i - from + 1
        count = omega arith

    -- at another byte it ends
    pub running_stops : 9 < (get_or text i 0 + 208) % 256 → record { value = value; next = i } ≡ digits_of 0 from (run (stop - from) (drop from text))
    running_stops above =
        sym (digits_none value i)
        ∙ ap (digits_of value i) (sym (run_stops text (stop - i) i (omega arith) (digit_other (get_or text i 0) byte above)))
        ∙ running.rest
