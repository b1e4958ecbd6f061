-- The shuffle: the product over a list of vectors x of r − ⟨s, x⟩. A record is put as a vector
-- where the bound is cited.
-- Assumes nothing.
use Rattle.std.specs.Prelude.{ℕ, Bool, List, [], ◌∷◌, eqb}
use Rattle.algebra.specs.Modulo.{minus, times}
use Rattle.algebra.specs.Vector.{inner}

-- the factor of a vector: r − ⟨s, x⟩ modulo q, where the challenge is r ∷ s
unfoldable pub factor : ℕ → List ℕ → List ℕ → ℕ
factor q [] x = 0
factor q (r ∷ s) x = minus q r (inner s x)

-- the product of the factors of a list of vectors, modulo q
unfoldable pub product : ℕ → List ℕ → List (List ℕ) → ℕ
product q c [] = 1
product q c (x ∷ xs) = times q (factor q c x) (product q c xs)

-- the two products are equal
unfoldable pub balances : ℕ → List ℕ → List (List ℕ) → List (List ℕ) → Bool
balances q c xs ys = eqb (product q c xs) (product q c ys)
