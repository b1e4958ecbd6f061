-- Sums and counts: over the numbers below a bound, and over all vectors whose entries are below a bound.
-- Assumes nothing.
use Rattle.std.specs.Prelude.{ℕ, zero, suc, ◌+◌, Bool, true, false, List, [], ◌∷◌}

-- f 0 + f 1 + … + f (n − 1)
unfoldable pub sum : ℕ → (ℕ → ℕ) → ℕ
sum zero f = 0
sum (suc n) f = sum n f + f n

-- 1 where a test passes, 0 where it fails
unfoldable pub bit : Bool → ℕ
bit true = 1
bit false = 0

-- how many of 0, …, n − 1 pass a test
unfoldable pub count : ℕ → (ℕ → Bool) → ℕ
count n test = sum n (λ x. bit (test x))

-- the sum of f over the q ^ d vectors of length d with entries below q
unfoldable pub sums : ℕ → ℕ → (List ℕ → ℕ) → ℕ
sums q zero f = f []
sums q (suc d) f = sum q (λ x. sums q d (λ w. f (x ∷ w)))

-- how many of the q ^ d vectors pass a test
unfoldable pub counts : ℕ → ℕ → (List ℕ → Bool) → ℕ
counts q d test = sums q d (λ w. bit (test w))
