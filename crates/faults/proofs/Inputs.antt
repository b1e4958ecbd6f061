-- Input rows in slices of words, read one at a time.
--     inputs_cons       the input rows from row k on begin with input row k
--     inputs_many       how many input rows a slice holds
-- Assumes nothing.
use Prim.Native.Nat.{ℕ, zero, suc, ◌+◌, ◌*◌, ◌/◌, ◌≤◌}
use native.Mathlib.Omega.{arith}
use mathlib.Core.Path.{◌≡◌, refl, sym, ap, ◌∙◌}
use mathlib.Core.List.{List, [], ◌∷◌}
use lib.ListN.{length, get_or, drop, length-map}
use Rattle.memory.specs.Names.{op_coded}
use Rattle.runs.specs.Honest.{Input}
use Rattle.runs.specs.Filler.{inputs_in}
use Rattle.index.specs.Values.{values_in}
use Rattle.index.proofs.Values.{values_many}
use Rattle.words.specs.Inputs.{input_at}

four_more : (k j : ℕ) → 4 * suc k + j ≡ suc (suc (suc (suc (4 * k + j))))
four_more k j = omega arith

pub four_more₀ : (k : ℕ) → 4 * suc k ≡ suc (suc (suc (suc (4 * k))))
four_more₀ k = omega arith

-- row k + 1 is row k of what follows the first row
input_at_later : (o g a v : ℕ) (rest : List ℕ) (k : ℕ) → input_at (o ∷ g ∷ a ∷ v ∷ rest) (suc k) ≡ input_at rest k
unfolding input_at
input_at_later o g a v rest k =
    let ws : List ℕ = o ∷ g ∷ a ∷ v ∷ rest in
    λ i. record {
      op = op_coded (get_or ws (four_more₀ k i) 0);
      guard = get_or ws (four_more k 1 i) 0;
      addr = get_or ws (four_more k 2 i) 0;
      value = get_or ws (four_more k 3 i) 0;
    }

pub inputs_cons : (inputs : List ℕ) (k : ℕ) → 4 * k + 4 ≤ length inputs → drop k (inputs_in inputs) ≡ input_at inputs k ∷ drop (suc k) (inputs_in inputs)
unfolding inputs_in input_at
inputs_cons [] k h = absurd (omega arith)
inputs_cons (o ∷ []) k h = absurd (omega arith)
inputs_cons (o ∷ g ∷ []) k h = absurd (omega arith)
inputs_cons (o ∷ g ∷ a ∷ []) k h = absurd (omega arith)
inputs_cons (o ∷ g ∷ a ∷ v ∷ rest) zero h = refl
inputs_cons (o ∷ g ∷ a ∷ v ∷ rest) (suc k) h =
    inputs_cons rest k (omega arith)
    ∙ ap (λ (i : Input). i ∷ drop (suc k) (inputs_in rest)) (sym (input_at_later o g a v rest k))

-- as many as values
pub values_each : (inputs : List ℕ) → length (values_in inputs) ≡ length (inputs_in inputs)
unfolding values_in
values_each inputs = length-map (inputs_in inputs) (λ i. i.value)

pub inputs_many : (inputs : List ℕ) → length (inputs_in inputs) ≡ length inputs / 4
inputs_many inputs = sym (values_each inputs) ∙ values_many inputs
