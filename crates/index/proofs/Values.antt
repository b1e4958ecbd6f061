-- Values of input rows in slices of words.
--     values_at       the value of row k stands in the row's fourth word
--     values_many     how many rows a slice holds
-- Assumes nothing.
use Prim.Native.Nat.{ℕ, zero, suc, ◌+◌, ◌*◌, ◌/◌}
use native.Mathlib.Omega.{arith}
use mathlib.Core.Path.{◌≡◌, refl, ap, ◌∙◌}
use mathlib.Core.List.{List, [], ◌∷◌}
use lib.ListN.{length, get_or}
use Rattle.runs.specs.Filler.{inputs_in}
use Rattle.words.specs.Inputs.{value_at}
use Rattle.index.specs.Values.{values_in}

four_more : (k : ℕ) → 4 * suc k + 3 ≡ suc (suc (suc (suc (4 * k + 3))))
four_more k = omega arith

pub values_at : (inputs : List ℕ) (k : ℕ) → value_at inputs k ≡ get_or (values_in inputs) k 0
unfolding values_in inputs_in
values_at [] k = refl
values_at (o ∷ []) zero = refl
values_at (o ∷ []) (suc k) = ap (λ (i : ℕ). get_or (o ∷ []) i 0) (four_more k)
values_at (o ∷ g ∷ []) zero = refl
values_at (o ∷ g ∷ []) (suc k) = ap (λ (i : ℕ). get_or (o ∷ g ∷ []) i 0) (four_more k)
values_at (o ∷ g ∷ a ∷ []) zero = refl
values_at (o ∷ g ∷ a ∷ []) (suc k) = ap (λ (i : ℕ). get_or (o ∷ g ∷ a ∷ []) i 0) (four_more k)
values_at (o ∷ g ∷ a ∷ v ∷ rest) zero = refl
values_at (o ∷ g ∷ a ∷ v ∷ rest) (suc k) = ap (λ (i : ℕ). get_or (o ∷ g ∷ a ∷ v ∷ rest) i 0) (four_more k) ∙ values_at rest k

pub values_many : (inputs : List ℕ) → length (values_in inputs) ≡ length inputs / 4
unfolding values_in inputs_in
values_many [] = refl
values_many (o ∷ []) = refl
values_many (o ∷ g ∷ []) = refl
values_many (o ∷ g ∷ a ∷ []) = refl
values_many (o ∷ g ∷ a ∷ v ∷ rest) = let ih = values_many rest in omega arith
