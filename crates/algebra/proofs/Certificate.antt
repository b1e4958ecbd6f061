-- Lucas's test: a number with a certificate is prime. The factors in the certificate are prime by trial division, so an exponent below n − 1
-- at which the base gives 1 would lead, by remainders, to a proper divisor of n − 1, and from there to (n − 1) / f for one of the factors f.
-- Assumes nothing.
use Prim.Native.Nat.{ℕ, zero, suc, ◌+◌, ◌-◌, ◌*◌, ◌/◌, ◌%◌, ◌^◌, ◌≤◌, ◌<◌, ◌∣◌}
use mathlib.Core.Path.{◌≡◌, sym, ◌∙◌, ap, subst}
use mathlib.Core.Logic.{inl, inr, ◌≢◌}
use mathlib.Core.Bool.{Bool, true, false, ◌&&◌, not}
use mathlib.Core.List.{List, [], ◌∷◌}
use native.Mathlib.Nat.{eq-zero-or-pos, eq-or-lt_of_le, mod-lt, mod-eq_of_lt, mod-add-div, le_refl, mul-mod_right, dvd-mul_left, eq-one_of_dvd-one}
use native.Mathlib.Nat.{eq_of_mul-eq-mul_left, div-eq_of_eq-mul_right, div-le_self}
use native.Mathlib.Omega.{arith}
use lib.Dec.{eqb, T, T_not, eqb→eq, eqb_refl, leb→le}
use Rattle.algebra.specs.Modulo.{Same}
use Rattle.algebra.specs.Prime.{Prime, multiply, power, undivided, tried, proper, certified}
use Rattle.algebra.specs.Statements.{CertifiedPrime}
use Rattle.algebra.proofs.Power.{power_is}
use Rattle.algebra.proofs.Euclid.{zero_product}
use Rattle.algebra.proofs.Order.{undivided_prime, multiple_power, remainder_power, order_prime}

-- of two tests that both pass, the first passes, and the second
and_l : (x y : Bool) → T (x && y) → T x
and_l true y t = tt
and_l false y t = t

and_r : (x y : Bool) → T (x && y) → T y
and_r true y t = t
and_r false y t = absurd t

-- a test for equality that fails
unequal : (a b : ℕ) → T (not (eqb a b)) → a ≢ b
unequal a b t e = T_not (eqb a b) t (subst (λ (x : ℕ). T (eqb a x)) e (eqb_refl a))

-- trial division: no number from d on, `tries` of them, divides n
undivided_is : (n d tries e : ℕ) → T (undivided n d tries) → d ≤ e → e < d + tries → n % e ≢ 0
unfolding undivided
undivided_is n d zero e t low high z = omega arith
undivided_is n d (suc tries) e t low high z =
    elim (eq-or-lt_of_le low) [
      | inl same ↦ unequal (n % d) 0 (search and_l) (ap (λ (x : ℕ). n % x) same ∙ z)
      | inr less ↦ undivided_is n (suc d) tries e (search (and_l, and_r)) less (omega arith) z
    ]

-- a number that passes trial division is prime
tried_prime : (n : ℕ) → T (tried n) → Prime n
unfolding tried
tried_prime n t =
    undivided_prime n two (λ d low high. undivided_is n 2 (n - 2) d (search (and_l, and_r)) low (omega arith))
  where
    two : 2 ≤ n
    two = leb→le 2 n (search and_l)

module _ (n g : ℕ) (two : 2 ≤ n) (small : n ≤ 2 ^ 64) where
  -- where g ^ k is 1 and n − 1 is k · c, a factor f that divides c fails its test: g ^ ((n − 1) / f) is 1
  factor_fails : (k c f : ℕ) → 0 < f → Same n (g ^ k) 1 → n - 1 ≡ k * c → c % f ≡ 0 → power n 64 g ((n - 1) / f) ≡ 1
  factor_fails k c f pos s split z =
      power_is n 64 g ((n - 1) / f) (omega (arith, div-le_self (n - 1) f))
      ∙ (ap (λ (t : ℕ). g ^ t % n) quotient ∙ ((multiple_power n g k (c / f) s).same ∙ mod-eq_of_lt two))
    where
      quotient : (n - 1) / f ≡ k * (c / f)
      quotient = div-eq_of_eq-mul_right pos (split ∙ omega (arith, ap (λ (t : ℕ). k * t) (mod-add-div c f), ap (λ (t : ℕ). k * t) z))

  -- Let g ^ k be 1 and n − 1 be k · c. None of the factors divides c, and their product is a multiple of c: so c is 1
  cofactor_one :
      (fs : List ℕ) (k c a : ℕ) → Same n (g ^ k) 1 → n - 1 ≡ k * c → T (proper n g fs) → multiply fs ≡ a * c → c ≡ 1
  unfolding proper multiply
  cofactor_one [] k c a s split t e = eq-one_of_dvd-one (subst (λ (x : ℕ). c ∣ x) (sym e) (dvd-mul_left c a))
  cofactor_one (f ∷ fs) k c a s split t e =
      elim (zero_product f a c prime (ap (λ (x : ℕ). x % f) (sym e) ∙ mul-mod_right f (multiply fs))) [
        | inl z ↦ cofactor_one fs k c (a / f) s split (search (and_l, and_r)) (cancel z)
        | inr z ↦ absurd (unequal (power n 64 g ((n - 1) / f)) 1 (search (and_l, and_r)) (factor_fails k c f positive s split z))
      ]
    where
      prime : Prime f
      prime = tried_prime f (search and_l)

      positive : 0 < f
      positive = omega (arith, prime.two)

      cancel : a % f ≡ 0 → multiply fs ≡ a / f * c
      cancel z =
          eq_of_mul-eq-mul_left f positive (multiply fs) (a / f * c)
          (e ∙ omega (arith, ap (λ (t : ℕ). t * c) (mod-add-div a f), ap (λ (t : ℕ). t * c) z))

  -- no positive exponent below n − 1 gives 1
  no_smaller_exponent :
      (fs : List ℕ) → multiply fs ≡ n - 1 → T (proper n g fs) → Same n (g ^ (n - 1)) 1
      → (fuel k : ℕ) → k ≤ fuel → 0 < k → k < n - 1 → ¬ Same n (g ^ k) 1
  no_smaller_exponent fs product t whole zero k bound pos below s = omega arith
  no_smaller_exponent fs product t whole (suc fuel) k bound pos below s =
      elim (eq-zero-or-pos ((n - 1) % k)) [
        | inl z ↦ proper_divisor z
        | inr p ↦ no_smaller_exponent fs product t whole fuel ((n - 1) % k) (omega (arith, less)) p (omega (arith, less)) (remainder_power n g k (n - 1) s whole)
      ]
    where
      less : (n - 1) % k < k
      less = mod-lt (n - 1) pos

      proper_divisor : (n - 1) % k ≡ 0 → ⊥
      proper_divisor z = omega (arith, split, ap (λ (x : ℕ). k * x) (cofactor_one fs k ((n - 1) / k) k s split t (product ∙ split)))
        where
          split : n - 1 ≡ k * ((n - 1) / k)
          split = omega (arith, mod-add-div (n - 1) k)

-- a number with a certificate is prime
pub certified_prime : CertifiedPrime
unfolding certified
certified_prime n base factors t = order_prime n base two (record { whole = whole; least = λ k. least k k (le_refl k) })
  where
    two : 2 ≤ n
    two = leb→le 2 n (search (and_l, and_r))

    small : n ≤ 2 ^ 64
    small = leb→le n (2 ^ 64) (search (and_l, and_r))

    product : multiply factors ≡ n - 1
    product = eqb→eq (multiply factors) (n - 1) (search (and_l, and_r))

    whole : Same n (base ^ (n - 1)) 1
    whole = record { same = sym computed ∙ (eqb→eq (power n 64 base (n - 1)) 1 (search (and_l, and_r)) ∙ sym (mod-eq_of_lt two)) }
      where
        computed : power n 64 base (n - 1) ≡ base ^ (n - 1) % n
        computed = power_is n 64 base (n - 1) (omega (arith, two, small))

    least : (fuel k : ℕ) → k ≤ fuel → 0 < k → k < n - 1 → ¬ Same n (base ^ k) 1
    least = no_smaller_exponent n base two small factors product (search (and_l, and_r)) whole
