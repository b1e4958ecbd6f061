-- Polynomials as lists of coefficients.
-- Assumes nothing.
use Rattle.std.specs.Prelude.{ℕ, ◌+◌, ◌*◌, ◌%◌, Bool, List, [], ◌∷◌, eqb}

-- the value at x, the constant coefficient first
unfoldable pub eval : List ℕ → ℕ → ℕ
eval [] x = 0
eval (c ∷ cs) x = c + x * eval cs x

-- x is a root modulo q
unfoldable pub root : ℕ → List ℕ → ℕ → Bool
root q cs x = eqb (eval cs x % q) 0
