-- The first field of a line, byte by byte: where it ends, and its key.
-- Assumes nothing.
use Prim.Native.Nat.{ℕ, suc, ◌+◌, ◌-◌, ◌*◌, ◌^◌, ◌≤◌, ◌<◌, min}
use mathlib.Core.Path.{◌≡◌, refl, sym, ap, ap₂, ◌∙◌}
use mathlib.Core.Bool.{Bool, true, false, cond}
use mathlib.Core.List.{List, [], ◌∷◌}
use native.Mathlib.Nat.{pow-suc, pow-le-pow_right, zero-lt-suc}
use native.Mathlib.Numerals.{add-one}
use native.Mathlib.Omega.{arith}
use lib.Dec.{eqb}
use lib.ListN.{length, get_or, drop, length-drop}
use lib.Seq.{drop-cons}
use borrow.Author.Tests.{le-leb, lt-leb, eq-eqb, ne_eqb}
use Rattle.std.specs.List.{position_or_len}
use Rattle.std.proofs.lemmas.List.Recursion.{is_position_or_len}
use Rattle.memory.specs.Bytes.{comma}
use Rattle.keys.specs.Keys.{key_from, key_of, longest_name, first, name_of}

-- at a comma and at the end the field ends
pub first_ends : (text : List ℕ) (i : ℕ) → i < length text → get_or text i 0 ≡ 44 → first (drop i text) ≡ []
unfolding first comma
first_ends text i here is = rw (drop-cons text i 0 here, eq-eqb _ 44 is)

-- another byte belongs to it
pub first_goes :
    (text : List ℕ) (i : ℕ) → i < length text → (get_or text i 0 ≡ 44 → ⊥)
    → first (drop i text) ≡ get_or text i 0 ∷ first (drop (i + 1) text)
unfolding first comma
first_goes text i here other = rw (drop-cons text i 0 here, ne_eqb _ 44 other, add-one i)

pub length_zero : (field : List ℕ) → length field ≡ 0 → field ≡ []
length_zero [] none = refl
length_zero (b ∷ field) none = absurd (omega arith)

-- it ends where the first comma stands
pub first_place : (bs : List ℕ) → length (first bs) ≡ position_or_len (λ b. eqb b comma) bs
unfolding first
first_place = is_position_or_len (λ bs. length (first bs)) (λ b. eqb b comma) (first_none) first_more
  where
    first_none : length (first []) ≡ 0
    first_none = refl

    first_more : (b : ℕ) (bs : List ℕ) → length (first (b ∷ bs)) ≡ cond (eqb b comma) 0 (1 + length (first bs))
    first_more b bs = by (eqb b comma)
      where
        by : (t : Bool) → length (cond t [] (b ∷ first bs)) ≡ cond t 0 (1 + length (first bs))
        by true = refl
        by false = omega arith

-- it is no longer than the text
pub first_within : (bs : List ℕ) → length (first bs) ≤ length bs
unfolding first
first_within [] = omega arith
first_within (b ∷ bs) = by (eqb b comma) (first_within bs)
  where
    by : (t : Bool) → length (first bs) ≤ length bs → length (cond t [] (b ∷ first bs)) ≤ suc (length bs)
    by true rest = omega arith
    by false rest = omega arith

-- so the end of the field does not change while its bytes are passed
pub first_passes :
    (text : List ℕ) (i : ℕ) → i < length text → (get_or text i 0 ≡ 44 → ⊥)
    → i + 1 + length (first (drop (i + 1) text)) ≡ i + length (first (drop i text))
first_passes text i here other = omega (arith, ap length (first_goes text i here other))

-- The key of a name is being made: that of the bytes before position i, and what those from i on still bring
pub record Naming (text : List ℕ) (stop key i : ℕ) : Type 0 where
  pub inside : i ≤ stop
  pub small : key < 2 * 256 ^ i
  pub place : i + length (first (drop i text)) ≡ length (first text)
  pub rest : key_from key (first (drop i text)) ≡ key_from 1 (first text)

module _ {text : List ℕ} {stop key i : ℕ} (naming : Naming text stop key i) where
  -- at a byte of the name it goes on
  pub naming_goes : i < stop → stop ≤ length text → (get_or text i 0 ≡ 44 → ⊥) → get_or text i 0 < 256 → Naming text stop (key * 256 + get_or text i 0) (i + 1)
  unfolding key_from
  naming_goes before within other byte =
      record {
        inside = omega arith;
        small = rw (add-one i, pow-suc 256 i) (omega (arith, naming.small));
        place = first_passes text i (omega arith) other ∙ naming.place;
        rest = ap (key_from key) (sym (first_goes text i (omega arith) other)) ∙ naming.rest;
      }

  -- where no byte of the name is left it is made
  pub naming_done : (next : ℕ) → stop ≤ 7 → next ≡ i → first (drop i text) ≡ [] → record { key = key; next = next } ≡ name_of (first text)
  unfolding key_from key_of name_of longest_name
  naming_done next short here none =
      ap₂ (λ (k n : ℕ). record { key = k; next = n }) (made ∙ rw (le-leb (length (first text)) 7 (omega (arith, ends)))) ends
    where
      ends : next ≡ length (first text)
      ends = omega (arith, naming.place, ap length none)

      made : key ≡ key_from 1 (first text)
      made = ap (key_from key) (sym none) ∙ naming.rest

  -- so it is at a comma
  pub naming_ends : i < stop → stop ≤ length text → stop ≤ 7 → get_or text i 0 ≡ 44 → record { key = key; next = i } ≡ name_of (first text)
  naming_ends before within short is = naming_done i short refl (first_ends text i (omega arith) is)

  -- or where the comma, or the end of the text, is right there; a name that goes on past its
  -- seventh byte has no key
  module _ (seven : stop ≡ min (length text) 7) (past : stop ≤ i) {next : ℕ} (is : next ≡ stop + position_or_len (λ b. eqb b 44) (drop stop text)) where
    here : stop ≡ i
    here = omega (arith, naming.inside)

    found : next ≡ i + length (first (drop i text))
    unfolding comma
    found = is ∙ ap (λ (n : ℕ). n + position_or_len (λ b. eqb b 44) (drop n text)) here ∙ ap (λ (n : ℕ). i + n) (sym (first_place (drop i text)))

    pub naming_closed : next ≡ stop → record { key = key; next = next } ≡ name_of (first text)
    naming_closed none = naming_done next (omega arith) (none ∙ here) (length_zero (first (drop i text)) (omega (arith, found, here)))

    pub naming_long : (next ≡ stop → ⊥) → record { key = 0; next = next } ≡ name_of (first text)
    unfolding key_of name_of longest_name
    naming_long beyond =
        ap₂ (λ (k n : ℕ). record { key = k; next = n }) (rw (lt-leb (length (first text)) 7 (omega (arith, found, here, naming.place, within)))) (found ∙ naming.place)
      where
        within : length (first (drop i text)) ≤ length text - i
        within = rw (length-drop i text) at (first_within (drop i text))

  pub naming_fits : i < 7 → key < 2 * 256 ^ 6
  naming_fits short = omega (arith, naming.small, pow-le-pow_right {n = 256} (zero-lt-suc 255) {i = i} {j = 6} (omega arith))
