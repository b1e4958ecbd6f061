-- The values of input rows in a slice of words, 4 words a row, and the first place of a value among
-- them.
-- Assumes nothing.
use Rattle.std.specs.Prelude.{ℕ, suc, cond, List, [], ◌∷◌, map, eqb}
use Rattle.runs.specs.Filler.{inputs_in}

-- the values of all input rows
unfoldable pub values_in : List ℕ → List ℕ
values_in inputs = map (λ i. i.value) (inputs_in inputs)

-- "equal set elements give all lookups to the first": the place of the first element that equals x,
-- or how many elements there are
unfoldable pub first_at : ℕ → List ℕ → ℕ
first_at x [] = 0
first_at x (y ∷ ys) = cond (eqb x y) 0 (suc (first_at x ys))
