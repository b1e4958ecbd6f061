-- Prime numbers, and certificates of primality: Lucas's test with the factors of n − 1.
-- Assumes nothing.
use Rattle.std.specs.Prelude.{ℕ, zero, suc, ◌-◌, ◌*◌, ◌/◌, ◌%◌, ◌^◌, ◌≤◌, ◌≡◌, ◌⊎◌, Bool, true, ◌&&◌, not, cond, List, [], ◌∷◌, eqb, leb}

-- n is prime: at least 2, and each of its divisors is 1 or n
pub record Prime (n : ℕ) : Type 0 where
  pub two : 2 ≤ n
  pub divisors : (d : ℕ) → n % d ≡ 0 → (d ≡ 1) ⊎ (d ≡ n)

-- the product of a list of numbers
unfoldable pub multiply : List ℕ → ℕ
multiply [] = 1
multiply (x ∷ xs) = x * multiply xs

-- g ^ e modulo n by repeated squaring, for an exponent of at most `digits` binary digits
unfoldable pub power : ℕ → ℕ → ℕ → ℕ → ℕ
power n zero g e = 1 % n
power n (suc digits) g e = let h = power n digits ((g * g) % n) (e / 2) in cond (eqb (e % 2) 1) ((g * h) % n) h

-- no number from d on, `tries` of them, divides n: trial division
unfoldable pub undivided : ℕ → ℕ → ℕ → Bool
undivided n d zero = true
undivided n d (suc tries) = not (eqb (n % d) 0) && undivided n (suc d) tries

-- trial division: no number from 2 to n − 1 divides n
unfoldable pub tried : ℕ → Bool
tried n = leb 2 n && undivided n 2 (n - 2)

-- each entry f is prime by trial division, and base ^ ((n − 1) / f) is not 1 modulo n
unfoldable pub proper : ℕ → ℕ → List ℕ → Bool
proper n base [] = true
proper n base (f ∷ fs) = tried f && (not (eqb (power n 64 base ((n - 1) / f)) 1) && proper n base fs)

-- A certificate that n is prime: n − 1 is the product of the given primes, and the base has order n − 1 modulo n. Exponents have at most 64 binary digits
unfoldable pub certified : ℕ → ℕ → List ℕ → Bool
certified n base factors =
    (leb 2 n && leb n (2 ^ 64)) && (eqb (multiply factors) (n - 1) && (eqb (power n 64 base (n - 1)) 1 && proper n base factors))
