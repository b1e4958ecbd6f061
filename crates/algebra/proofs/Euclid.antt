-- A product that is 0 modulo a prime has a factor that is 0 modulo it.
-- Assumes nothing.
use Prim.Native.Nat.{ℕ, zero, suc, ◌+◌, ◌*◌, ◌/◌, ◌%◌, ◌≤◌, ◌<◌, ◌∣◌}
use mathlib.Core.Path.{◌≡◌, ◌∙◌, ap, subst}
use mathlib.Core.Logic.{◌⊎◌, inl, inr}
use native.Mathlib.Nat.{eq-zero-or-pos, le_refl, one-mul, mod-lt, mod-add-div}
use native.Mathlib.Nat.{dvd-mul_right, dvd-mul_right_of_dvd, dvd-add_iff_left, dvd_of_mod-eq-zero, mod-eq-zero_of_dvd}
use native.Mathlib.Omega.{arith}
use Rattle.algebra.specs.Prime.{Prime}
use Rattle.algebra.specs.Statements.{ZeroProduct}
use Rattle.algebra.proofs.Modulo.{same_refl, same_mod, same_mul}

-- where q divides x · y, it divides q % x · y as well, since x · (q / x) · y and q · y are multiples of q
remainder_kills : (q x y : ℕ) → q ∣ x * y → q ∣ (q % x) * y
remainder_kills q x y h =
    (dvd-add_iff_left q {m = (q % x) * y} (dvd-mul_right_of_dvd q h (q / x))).1 (subst (λ (t : ℕ). q ∣ t) split (dvd-mul_right q y))
  where
    split : q * y ≡ (q % x) * y + x * y * (q / x)
    split = omega (arith, ap (λ (t : ℕ). t * y) (mod-add-div q x))

-- one step of the descent: x is 1 and q divides y, or q % x is positive
one_or_remainder : (q x y : ℕ) → Prime q → x < q → q ∣ x * y → (q ∣ y) ⊎ (0 < q % x)
one_or_remainder q x y prime below h =
    elim (eq-zero-or-pos (q % x)) [
      | inl z ↦ elim (prime.divisors x z) [
        | inl e ↦ inl (subst (λ (t : ℕ). q ∣ t) (ap (λ (t : ℕ). t * y) e ∙ one-mul y) h)
        | inr e ↦ absurd (omega arith)
      ]
      | inr p ↦ inr p
    ]

-- descent: for 0 < x < q, x is replaced by q % x until it is 1
below_prime : (fuel q x y : ℕ) → Prime q → x ≤ fuel → 0 < x → x < q → q ∣ x * y → q ∣ y
below_prime zero q x y prime bound pos below h = absurd (omega arith)
below_prime (suc fuel) q x y prime bound pos below h =
    elim (one_or_remainder q x y prime below h) [
      | inl d ↦ d
      | inr p ↦ below_prime fuel q (q % x) y prime (omega (arith, less)) p (omega (arith, less)) (remainder_kills q x y h)
    ]
  where
    less : q % x < x
    less = mod-lt q pos

-- a product that is 0 modulo a prime has a factor that is 0 modulo it
pub zero_product : ZeroProduct
zero_product q x y prime h =
    elim (eq-zero-or-pos (x % q)) [
      | inl e ↦ inl e
      | inr p ↦ inr (mod-eq-zero_of_dvd q (below_prime (x % q) q (x % q) y prime (le_refl (x % q)) p (mod-lt x (omega (arith, prime.two))) reduced))
    ]
  where
    reduced : q ∣ x % q * y
    reduced = dvd_of_mod-eq-zero q ((same_mul (same_mod q x) same_refl).same ∙ h)
