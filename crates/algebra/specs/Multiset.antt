-- Lists that hold the same entries equally often.
-- Assumes nothing.
use Rattle.std.specs.Prelude.{ℕ, ◌+◌, ◌≡◌, List, [], ◌∷◌}

module _ {A : Type 0} where
  -- the sum of a weight over the entries of a list
  unfoldable pub total : (A → ℕ) → List A → ℕ
  total weight [] = 0
  total weight (x ∷ xs) = weight x + total weight xs

  -- every weight has the same sum over both lists. With the weight that is 1 at one entry and 0 elsewhere: every entry occurs equally often
  abbrev pub EquallyOften : List A → List A → Type 0
  EquallyOften xs ys = (weight : A → ℕ) → total weight xs ≡ total weight ys
