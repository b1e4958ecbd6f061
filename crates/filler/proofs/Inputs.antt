-- Input rows in slices of words, in parts.
--     inputs_count      4n words hold n input rows
--     inputs_take, inputs_drop    the first n input rows, and those after them, as parts of the words
--     values_cons       the values from row k on begin with the value of row k
--     values_count      4n words hold n values
-- Assumes nothing.
use Prim.Native.Nat.{ℕ, zero, suc, ◌+◌, ◌*◌, ◌≤◌}
use native.Mathlib.Omega.{arith}
use mathlib.Core.Path.{◌≡◌, refl, sym, ap, ◌∙◌}
use mathlib.Core.List.{List, [], ◌∷◌, map}
use lib.ListN.{length, take, drop}
use Rattle.memory.specs.Names.{op_coded}
use Rattle.runs.specs.Honest.{Input}
use Rattle.runs.specs.Filler.{inputs_in}
use Rattle.words.specs.Inputs.{value_at, input_at}
use Rattle.index.specs.Values.{values_in}
use Rattle.index.proofs.Values.{values_many}
use Rattle.faults.proofs.Inputs.{four_more₀, inputs_cons, inputs_many}

pub inputs_count : (inputs : List ℕ) (n : ℕ) → 4 * n ≡ length inputs → length (inputs_in inputs) ≡ n
inputs_count inputs n h = omega (arith, inputs_many inputs)

pub inputs_take : (inputs : List ℕ) (n : ℕ) → 4 * n ≤ length inputs → inputs_in (take (4 * n) inputs) ≡ take n (inputs_in inputs)
unfolding inputs_in
inputs_take inputs zero h = refl
inputs_take [] (suc n) h = absurd (omega arith)
inputs_take (o ∷ []) (suc n) h = absurd (omega arith)
inputs_take (o ∷ g ∷ []) (suc n) h = absurd (omega arith)
inputs_take (o ∷ g ∷ a ∷ []) (suc n) h = absurd (omega arith)
inputs_take (o ∷ g ∷ a ∷ v ∷ rest) (suc n) h =
    let i : Input = record { op = op_coded o; guard = g; addr = a; value = v } in
    ap (λ (k : ℕ). inputs_in (take k (o ∷ g ∷ a ∷ v ∷ rest))) (four_more₀ n) ∙ ap (λ (is : List Input). i ∷ is) (inputs_take rest n (omega arith))

pub inputs_drop : (inputs : List ℕ) (n : ℕ) → 4 * n ≤ length inputs → inputs_in (drop (4 * n) inputs) ≡ drop n (inputs_in inputs)
unfolding inputs_in
inputs_drop inputs zero h = refl
inputs_drop [] (suc n) h = absurd (omega arith)
inputs_drop (o ∷ []) (suc n) h = absurd (omega arith)
inputs_drop (o ∷ g ∷ []) (suc n) h = absurd (omega arith)
inputs_drop (o ∷ g ∷ a ∷ []) (suc n) h = absurd (omega arith)
inputs_drop (o ∷ g ∷ a ∷ v ∷ rest) (suc n) h =
    ap (λ (k : ℕ). inputs_in (drop k (o ∷ g ∷ a ∷ v ∷ rest))) (four_more₀ n) ∙ inputs_drop rest n (omega arith)

-- ---- the values alone

map_drop : (f : Input → ℕ) (is : List Input) (k : ℕ) → drop k (map f is) ≡ map f (drop k is)
map_drop f is zero = refl
map_drop f [] (suc k) = refl
map_drop f (i ∷ is) (suc k) = map_drop f is k

pub values_cons : (inputs : List ℕ) (k : ℕ) → 4 * k + 4 ≤ length inputs → drop k (values_in inputs) ≡ value_at inputs k ∷ drop (suc k) (values_in inputs)
unfolding values_in input_at
values_cons inputs k h =
    let f : Input → ℕ = λ i. i.value in
    map_drop f (inputs_in inputs) k ∙ ap (map f) (inputs_cons inputs k h)
    ∙ ap (λ (vs : List ℕ). value_at inputs k ∷ vs) (sym (map_drop f (inputs_in inputs) (suc k)))

pub values_count : (inputs : List ℕ) (n : ℕ) → 4 * n ≡ length inputs → length (values_in inputs) ≡ n
values_count inputs n h = omega (arith, values_many inputs)
