-- Lookups counted in scratch words, and the range rows and end rows that the counts give.
--     occurrences_few     a key occurs at most as often as there are keys
--     read_turn, counts_turn     the counts after a lookup are those of one key more
--     ranges_are      counts of every age give the range rows
-- Assumes nothing.
use Prim.Native.Nat.{ℕ, zero, suc, ◌+◌, ◌≤◌, ◌<◌}
use native.Mathlib.Omega.{arith}
use native.Mathlib.Decide.{ℕ_discrete}
use mathlib.Core.Bool.{Bool, true, false, cond}
use mathlib.Core.Path.{◌≡◌, refl, sym, ap, ◌∙◌}
use mathlib.Core.List.{List, [], ◌∷◌}
use lib.Dec.{eqb}
use lib.ListN.{length, get_or, set}
use lib.Seq.{get_or-set_same, get_or-set_other}
use borrow.Author.Tests.{eq-eqb, ne_eqb}
use Rattle.runs.specs.Honest.{occurrences, range_row, range_rows_from}
use Rattle.filler.specs.Steps.{counted}
use Rattle.filler.specs.Ends.{ranges}

pub occurrences_few : (x : ℕ) (keys : List ℕ) → occurrences x keys ≤ length keys
unfolding occurrences
occurrences_few x [] = omega arith
occurrences_few x (y ∷ keys) = go (eqb x y) (occurrences_few x keys)
  where
    go : (b : Bool) → occurrences x keys ≤ length keys → cond b 1 0 + occurrences x keys ≤ suc (length keys)
    go true h = omega arith
    go false h = omega arith

pub occurrences_same : (x y : ℕ) (keys : List ℕ) → x ≡ y → occurrences x (y ∷ keys) ≡ occurrences x keys + 1
unfolding occurrences
occurrences_same x y keys e = ap (λ (b : Bool). cond b 1 0 + occurrences x keys) (eq-eqb x y e) ∙ omega arith

pub occurrences_other : (x y : ℕ) (keys : List ℕ) → (x ≡ y → ⊥) → occurrences x (y ∷ keys) ≡ occurrences x keys
unfolding occurrences
occurrences_other x y keys n = ap (λ (b : Bool). cond b 1 0 + occurrences x keys) (ne_eqb x y n) ∙ omega arith

-- Counts of keys in n slots: slot j, the word at `place j`, counts the key f j, and no other slot
-- does. `read` is the count that a word tells, and `more` is a word with one lookup more.
module _ (read more : ℕ → ℕ) (one : (x : ℕ) → read (more x) ≡ read x + 1) (place : ℕ → ℕ) (apart : (i j : ℕ) → place i ≡ place j → i ≡ j) where
  pub read_turn : (s : List ℕ) (n : ℕ) (f : ℕ → ℕ) (keys : List ℕ) (key slot : ℕ)
      → ((j : ℕ) → j < n → read (get_or s (place j) 0) ≡ occurrences (f j) keys) → place slot < length s → slot < n → f slot ≡ key → ((j : ℕ) → f j ≡ key → j ≡ slot)
      → (j : ℕ) → j < n → read (get_or (set s (place slot) (more (get_or s (place slot) 0))) (place j) 0) ≡ occurrences (f j) (key ∷ keys)
  read_turn s n f keys key slot counts room inside is only j h = go (ℕ_discrete j slot)
    where
      s' : List ℕ
      s' = set s (place slot) (more (get_or s (place slot) 0))

      go : Dec (j ≡ slot) → read (get_or s' (place j) 0) ≡ occurrences (f j) (key ∷ keys)
      go (yes e) =
          ap (λ (i : ℕ). read (get_or s' (place i) 0)) e
          ∙ ap read (get_or-set_same s (place slot) (more (get_or s (place slot) 0)) 0 room)
          ∙ one (get_or s (place slot) 0)
          ∙ ap (λ (x : ℕ). x + 1) (counts slot inside)
          ∙ sym (occurrences_same (f slot) key keys is)
          ∙ ap (λ (i : ℕ). occurrences (f i) (key ∷ keys)) (sym e)
      go (no n) =
          ap read (get_or-set_other s (place slot) (place j) (more (get_or s (place slot) 0)) 0 (λ e. n (apart j slot e)))
          ∙ counts j h
          ∙ sym (occurrences_other (f j) key keys (λ e. n (only j e)))

-- a word from b on that is its count
pub counts_turn : (s : List ℕ) (b n : ℕ) (f : ℕ → ℕ) (keys : List ℕ) (key slot : ℕ)
    → ((j : ℕ) → j < n → get_or s (b + j) 0 ≡ occurrences (f j) keys) → b + n ≤ length s → slot < n → f slot ≡ key → ((j : ℕ) → f j ≡ key → j ≡ slot)
    → (j : ℕ) → j < n → get_or (counted s (b + slot)) (b + j) 0 ≡ occurrences (f j) (key ∷ keys)
counts_turn s b n f keys key slot counts room inside =
    read_turn (λ x. x) (λ x. x + 1) (λ x. refl) (λ j. b + j) (λ i j e. omega arith) s n f keys key slot counts (omega arith) inside

-- counts of the ages from 1 on
pub ranges_are : (s : List ℕ) (b t a c : ℕ) (ages : List ℕ) → ((j : ℕ) → j < t → get_or s (b + j) 0 ≡ occurrences (suc j) ages) → a + c ≤ t
    → range_rows_from (suc a) c ages ≡ ranges (b + a) c s
unfolding range_rows_from ranges
ranges_are s b t a zero ages counts h = refl
ranges_are s b t a (suc c) ages counts h =
    let next : b + suc a ≡ suc (b + a) = omega arith in
    (λ i. range_row (sym (counts a (omega arith)) i) ∷ ranges_are s b t (suc a) c ages counts (omega arith) i)
    ∙ ap (λ (j : ℕ). range_row (get_or s (b + a) 0) ∷ ranges j c s) next
