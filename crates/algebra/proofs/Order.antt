-- The order of a base modulo n, and Lucas's theorem: where some base has order n − 1 modulo n, n is prime.
-- The powers g ^ 0, …, g ^ (n − 2) are then different modulo n, and none of them is a multiple of a divisor d of n other than 1. With 0 they
-- are n different numbers below n, and d is not among them: so d is n.
-- Assumes nothing.
use Prim.Native.Nat.{ℕ, zero, suc, ◌-◌, ◌*◌, ◌/◌, ◌%◌, ◌^◌, ◌≤◌, ◌<◌, ◌∣◌}
use mathlib.Core.Path.{◌≡◌, sym, ◌∙◌, ap}
use mathlib.Core.Logic.{◌⊎◌, inl, inr, ◌≢◌}
use native.Mathlib.Nat.{mod-lt, mod_self, zero-mod, mod-add-div, mod-mod_of_dvd, one-mul, mul-one, zero-mul, dvd_of_mod-eq-zero}
use native.Mathlib.Nat.{eq-one_of_dvd-one, le_of_dvd, pos_of_dvd_of_pos, add-sub_of_le}
use native.Mathlib.Decide.{ℕ_discrete}
use native.Mathlib.Omega.{arith}
use lib.Pow.{pow-add}
use Rattle.algebra.specs.Modulo.{Same}
use Rattle.algebra.specs.Prime.{Prime}
use Rattle.algebra.proofs.Modulo.{same_of_eq, same_refl, same_sym, same_trans, same_zero, zero_of_same, same_mul}
use Rattle.algebra.proofs.Power.{pow_mul, same_pow, one_pow}
use Rattle.algebra.proofs.Pigeonhole.{none_left_out}

-- a number that none from 2 to n − 1 divides is prime
pub undivided_prime : (n : ℕ) → 2 ≤ n → ((d : ℕ) → 2 ≤ d → d < n → n % d ≢ 0) → Prime n
undivided_prime n two none = record { two = two; divisors = λ d z. cases d z (ℕ_discrete d 1) (ℕ_discrete d n) }
  where
    cases : (d : ℕ) → n % d ≡ 0 → Dec (d ≡ 1) → Dec (d ≡ n) → (d ≡ 1) ⊎ (d ≡ n)
    cases d z (yes e) whole = inl e
    cases d z (no a) (yes e) = inr e
    cases d z (no a) (no b) = absurd (none d (omega (arith, positive)) (omega (arith, at_most)) z)
      where
        positive : 0 < d
        positive = pos_of_dvd_of_pos (dvd_of_mod-eq-zero d z) (omega arith)

        at_most : d ≤ n
        at_most = le_of_dvd (omega arith) (dvd_of_mod-eq-zero d z)

-- g has the given order modulo n: that power of g is 1, and no smaller positive one is
pub record Order (n g order : ℕ) : Type 0 where
  pub whole : Same n (g ^ order) 1
  pub least : (k : ℕ) → 0 < k → k < order → ¬ Same n (g ^ k) 1

-- where g ^ k is 1, so is g to every multiple of k
pub multiple_power : (n g k c : ℕ) → Same n (g ^ k) 1 → Same n (g ^ (k * c)) 1
multiple_power n g k c s = same_trans (same_of_eq (pow_mul g k c)) (same_trans (same_pow s c) (same_of_eq (one_pow c)))

-- where g ^ k and g ^ m are 1, so is g ^ (m % k)
pub remainder_power : (n g k m : ℕ) → Same n (g ^ k) 1 → Same n (g ^ m) 1 → Same n (g ^ (m % k)) 1
remainder_power n g k m s t =
    same_trans (same_of_eq (sym (mul-one (g ^ (m % k)))))
    (same_trans (same_mul same_refl (same_sym (multiple_power n g k (m / k) s))) (same_trans (same_of_eq split) t))
  where
    split : g ^ (m % k) * g ^ (k * (m / k)) ≡ g ^ m
    split = sym (pow-add g (m % k) (k * (m / k))) ∙ ap (λ (t : ℕ). g ^ t) (mod-add-div m k)

-- powers with different exponents below the order are different modulo n
powers_differ : (n g order : ℕ) → Order n g order → (i j : ℕ) → i < j → j < order → ¬ Same n (g ^ i) (g ^ j)
powers_differ n g order o i j l k s = o.least (j - i) (omega arith) (omega arith) difference
  where
    regroup : g ^ order * g ^ (j - i) ≡ g ^ (order - i) * g ^ j
    regroup = sym (pow-add g order (j - i)) ∙ (ap (λ (t : ℕ). g ^ t) (omega arith) ∙ pow-add g (order - i) j)

    join : g ^ (order - i) * g ^ i ≡ g ^ order
    join = sym (pow-add g (order - i) i) ∙ ap (λ (t : ℕ). g ^ t) (omega arith)

    difference : Same n (g ^ (j - i)) 1
    difference =
        same_trans (same_of_eq (sym (one-mul (g ^ (j - i)))))
        (same_trans (same_mul (same_sym o.whole) same_refl)
        (same_trans (same_of_eq regroup)
        (same_trans (same_mul same_refl (same_sym s)) (same_trans (same_of_eq join) o.whole))))

-- numbers that are the same modulo n are the same modulo a divisor of n
same_divisor : (n d x y : ℕ) → n % d ≡ 0 → Same n x y → Same d x y
same_divisor n d x y z s =
    record { same = sym (mod-mod_of_dvd d x divides) ∙ (ap (λ (t : ℕ). t % d) s.same ∙ mod-mod_of_dvd d y divides) }
  where
    divides : d ∣ n
    divides = dvd_of_mod-eq-zero d z

-- a power of g with an exponent up to the order is a multiple of no divisor of n but 1
power_coprime : (n g order : ℕ) → Order n g order → (d i : ℕ) → n % d ≡ 0 → i ≤ order → (g ^ i % n) % d ≡ 0 → d ≡ 1
power_coprime n g order o d i z l e = eq-one_of_dvd-one (dvd_of_mod-eq-zero d (zero_of_same one_zero))
  where
    factor : Same d (g ^ i) 0
    factor = same_zero (sym (mod-mod_of_dvd d (g ^ i) (dvd_of_mod-eq-zero d z)) ∙ e)

    join : g ^ i * g ^ (order - i) ≡ g ^ order
    join = sym (pow-add g i (order - i)) ∙ ap (λ (t : ℕ). g ^ t) (add-sub_of_le l)

    one_zero : Same d 1 0
    one_zero =
        same_trans (same_sym (same_divisor n d (g ^ order) 1 z o.whole))
        (same_trans (same_of_eq (sym join)) (same_trans (same_mul factor same_refl) (same_of_eq (zero-mul (g ^ (order - i))))))

-- 0 and the powers of g modulo n
values : ℕ → ℕ → ℕ → ℕ
values n g zero = 0
values n g (suc i) = g ^ i % n

-- a base of order n − 1 makes n prime
pub order_prime : (n g : ℕ) → 2 ≤ n → Order n g (n - 1) → Prime n
unfolding values
order_prime n g two o = undivided_prime n two no_divisor
  where
    no_divisor : (d : ℕ) → 2 ≤ d → d < n → n % d ≢ 0
    no_divisor d low high z = none_left_out n (values n g) d below apart high out
      where
        coprime : (i : ℕ) → i < n - 1 → (g ^ i % n) % d ≢ 0
        coprime i l e = omega (arith, power_coprime n g (n - 1) o d i z (omega arith) e)

        below : (i : ℕ) → i < n → values n g i < n
        below zero l = l
        below (suc i) l = mod-lt (g ^ i) (omega arith)

        apart : (i j : ℕ) → i < j → j < n → values n g i ≢ values n g j
        apart i zero l k e = omega arith
        apart zero (suc j) l k e = coprime j (omega arith) (ap (λ (t : ℕ). t % d) (sym e) ∙ zero-mod d)
        apart (suc i) (suc j) l k e = powers_differ n g (n - 1) o i j (omega arith) (omega arith) (record { same = e })

        out : (i : ℕ) → i < n → values n g i ≢ d
        out zero l e = omega arith
        out (suc i) l e = coprime i (omega arith) (ap (λ (t : ℕ). t % d) e ∙ mod_self d)
