-- A comma and the digits after it read as a number exactly where those digits are a numeral.
-- Assumes nothing.
use Rattle.std.proofs.Common.{◌≡◌, ℕ, zero, suc, ◌+◌, ◌-◌, ◌<◌, ◌≤◌, min, Bool, true, false, cond, None, Some, not, ◌&&◌, ◌||◌, eqb, leb, List, [], ◌∷◌, length, get_or, drop, sym, refl, ap, ◌∙◌, add-zero, add-one, arith, length-drop, drop_of_length-le, get_or-drop, drop-cons, eq-eqb, ne_eqb, le-leb}
use mathlib.Core.Bool.{and-true, and-false, or-true}
use native.Mathlib.Nat.{suc-min-suc, zero-min, min-zero}
use borrow.Author.Tests.{lt-leb}
use Rattle.memory.specs.Bytes.{comma, digit, digits, numeral}
use Rattle.decimal.specs.declared.Number.{Number}
use Rattle.decimal.specs.Numbers.{run, most, digits_of, number_of, number_from}

-- a run holds digits alone
pub digits_run : (k : ℕ) (bs : List ℕ) → digits (run k bs) ≡ true
unfolding run digits
digits_run zero bs = refl
digits_run (suc k) [] = refl
digits_run (suc k) (b ∷ bs) = by (digit b) refl (digits_run k bs)
  where
    by : (t : Bool) → digit b ≡ t → digits (run k bs) ≡ true → digits (cond t (b ∷ run k bs) []) ≡ true
    by true is rest = rw (is, rest)
    by false other rest = refl

-- at most k of them
pub length_run : (k : ℕ) (bs : List ℕ) → length (run k bs) ≤ k
unfolding run
length_run zero bs = omega arith
length_run (suc k) [] = omega arith
length_run (suc k) (b ∷ bs) = by (digit b) (length_run k bs)
  where
    by : (t : Bool) → length (run k bs) ≤ k → length (cond t (b ∷ run k bs) []) ≤ suc k
    by true rest = omega arith
    by false rest = omega arith

-- and no more than there are bytes
pub run_within : (k : ℕ) (bs : List ℕ) → length (run k bs) ≤ length bs
unfolding run
run_within zero bs = omega arith
run_within (suc k) [] = omega arith
run_within (suc k) (b ∷ bs) = by (digit b) (run_within k bs)
  where
    by : (t : Bool) → length (run k bs) ≤ length bs → length (cond t (b ∷ run k bs) []) ≤ suc (length bs)
    by true rest = omega arith
    by false rest = omega arith

-- its first byte is the text's
pub run_first : (k : ℕ) (bs : List ℕ) → 0 < length (run k bs) → get_or (run k bs) 0 0 ≡ get_or bs 0 0
unfolding run
run_first zero bs some = absurd (omega arith)
run_first (suc k) [] some = refl
run_first (suc k) (b ∷ bs) some = by (digit b) some
  where
    by : (t : Bool) → 0 < length (cond t (b ∷ run k bs) []) → get_or (cond t (b ∷ run k bs) []) 0 0 ≡ b
    by true some = refl
    by false some = absurd (omega arith)

-- a run that may be longer than the text ends with it
pub run_whole : (k : ℕ) (bs : List ℕ) → run (min (length bs) k) bs ≡ run k bs
unfolding run
run_whole zero bs = rw (min-zero (length bs))
run_whole (suc k) [] = rw (zero-min (suc k))
run_whole (suc k) (b ∷ bs) =
    rw (suc-min-suc (length bs) k) (ap (λ (ds : List ℕ). cond (digit b) (b ∷ ds) []) (run_whole k bs))

-- a run of at most ten digits is a numeral where it is not empty and, being longer than one digit, does not begin with a zero
pub numeral_run :
    (bs : List ℕ) → numeral (run most bs) ≡ (leb 1 (length (run most bs)) && (eqb (length (run most bs)) 1 || not (eqb (get_or (run most bs) 0 0) 48)))
unfolding numeral most
numeral_run bs = simp (le-leb _ _ (length_run 10 bs), digits_run 10 bs, and-true)

-- where no comma stands, no number is read
pub number_past : (text : List ℕ) (at : ℕ) → length text ≤ at → number_from at (drop at text) ≡ None
unfolding number_from
number_past text at past = rw (drop_of_length-le text past)

pub number_uncomma : (text : List ℕ) (at : ℕ) → at < length text → (get_or text at 0 ≡ 44 → ⊥) → number_from at (drop at text) ≡ None
unfolding number_from comma
number_uncomma text at here other = rw (drop-cons text at 0 here, ne_eqb _ 44 other)

-- after a comma the digits decide
pub number_comma :
    (text : List ℕ) (at : ℕ) → at < length text → get_or text at 0 ≡ 44
    → number_from at (drop at text) ≡ number_of (at + 1) (run most (drop (at + 1) text))
unfolding number_from comma
number_comma text at here is = rw (drop-cons text at 0 here, eq-eqb _ 44 is, ← (add-one at))

-- the digits up to a stop are those of a number, where the stop is ten bytes on, or the end of the text
pub digits_most :
    (text : List ℕ) (from stop : ℕ) → stop ≡ min (length text) (from + 10)
    → digits_of 0 from (run (stop - from) (drop from text)) ≡ digits_of 0 from (run most (drop from text))
unfolding most
digits_most text from stop is =
    rw (left, ← (length-drop from text), run_whole 10 (drop from text))
  where
    left : stop - from ≡ min (length text - from) 10
    left = omega arith

-- the digits from a position on, ten at most
abbrev pub run_at : List ℕ → ℕ → List ℕ
run_at text from = run most (drop from text)

-- The digits found from a position on: whether they are a number is seen from where they end and from their first byte
module _ (text : List ℕ) (from : ℕ) (found : Number) (is : found ≡ digits_of 0 from (run_at text from)) where
  ends : found.next ≡ from + length (run_at text from)
  unfolding digits_of
  ends = ap (λ r. r.next) is

  begins : 0 < length (run_at text from) → get_or (run_at text from) 0 0 ≡ get_or text from 0
  begins some = run_first most (drop from text) some ∙ get_or-drop from text 0 0 ∙ ap (λ (k : ℕ). get_or text k 0) (add-zero from)

  -- they end inside the text
  pub digits_end : from ≤ length text → found.next ≤ length text
  digits_end inside = omega (arith, ends, run_within most (drop from text), length-drop from text)

  pub found_none : found.next ≡ from → None ≡ number_of from (run_at text from)
  unfolding number_of
  found_none none =
      rw (numeral_run (drop from text), lt-leb 1 (length (run_at text from)) (omega (arith, ends)))

  pub found_zero : from + 1 < found.next → get_or text from 0 ≡ 48 → None ≡ number_of from (run_at text from)
  unfolding number_of
  found_zero long naught =
      rw (
        numeral_run (drop from text),
        ne_eqb (length (run_at text from)) 1 (omega (arith, ends)),
        eq-eqb _ 48 (begins (omega (arith, ends)) ∙ naught),
        and-false,
      )

  pub found_long :
      from + 1 < found.next → (get_or text from 0 ≡ 48 → ⊥) → Some found ≡ number_of from (run_at text from)
  unfolding number_of
  found_long long other =
      rw (
        numeral_run (drop from text),
        le-leb 1 (length (run_at text from)) (omega (arith, ends)),
        ne_eqb _ 48 (λ naught. other (sym (begins (omega (arith, ends))) ∙ naught)),
        or-true,
      )
      (ap Some is)

  pub found_one : (found.next ≡ from → ⊥) → found.next ≤ from + 1 → Some found ≡ number_of from (run_at text from)
  unfolding number_of
  found_one some one =
      rw (
        numeral_run (drop from text),
        le-leb 1 (length (run_at text from)) (omega (arith, ends)),
        eq-eqb (length (run_at text from)) 1 (omega (arith, ends)),
      )
      (ap Some is)
