-- Arithmetic modulo q.
-- Assumes nothing.
use Rattle.std.specs.Prelude.{ℕ, ◌+◌, ◌-◌, ◌*◌, ◌%◌, ◌≡◌}

-- x and y leave the same remainder modulo q
pub record Same (q x y : ℕ) : Type 0 where
  pub same : x % q ≡ y % q

-- the sum, the difference and the product modulo q
unfoldable pub plus : ℕ → ℕ → ℕ → ℕ
plus q x y = (x + y) % q

unfoldable pub minus : ℕ → ℕ → ℕ → ℕ
minus q x y = (x + (q - y % q)) % q

unfoldable pub times : ℕ → ℕ → ℕ → ℕ
times q x y = (x * y) % q
