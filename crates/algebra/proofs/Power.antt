-- Powers: the laws of exponents, powers modulo n, and that repeated squaring computes them.
-- Assumes nothing.
use Prim.Native.Nat.{ℕ, zero, suc, ◌*◌, ◌/◌, ◌%◌, ◌^◌, ◌<◌}
use mathlib.Core.Path.{◌≡◌, refl, sym, ◌∙◌, ap}
use mathlib.Core.Bool.{Bool, true, false, cond}
use native.Mathlib.Nat.{mul-zero, mul-suc, mul-one, one-mul, pow-zero, pow-suc, pow-succ'}
use native.Mathlib.Omega.{arith}
use lib.Dec.{eqb}
use lib.Pow.{pow-add}
use borrow.Author.Tests.{eqb-true, eqb-false}
use Rattle.algebra.specs.Modulo.{Same}
use Rattle.algebra.specs.Prime.{power}
use Rattle.algebra.proofs.Modulo.{same_of_eq, same_refl, same_trans, same_mod, same_mul}

-- a product of exponents
pub pow_mul : (g a b : ℕ) → g ^ (a * b) ≡ (g ^ a) ^ b
pow_mul g a zero = ap (λ (t : ℕ). g ^ t) (mul-zero a) ∙ (pow-zero g ∙ sym (pow-zero (g ^ a)))
pow_mul g a (suc b) =
    ap (λ (t : ℕ). g ^ t) (mul-suc a b) ∙ (pow-add g (a * b) a ∙ (ap (λ (t : ℕ). t * g ^ a) (pow_mul g a b) ∙ sym (pow-suc (g ^ a) b)))

-- powers respect what is the same modulo n
pub same_pow : {n x y : ℕ} → Same n x y → (k : ℕ) → Same n (x ^ k) (y ^ k)
same_pow {n} {x} {y} s zero = same_of_eq (pow-zero x ∙ sym (pow-zero y))
same_pow {n} {x} {y} s (suc k) =
    same_trans (same_of_eq (pow-suc x k)) (same_trans (same_mul (same_pow s k) s) (same_of_eq (sym (pow-suc y k))))

-- a power of 1 is 1
pub one_pow : (k : ℕ) → 1 ^ k ≡ 1
one_pow zero = pow-zero 1
one_pow (suc k) = pow-suc 1 k ∙ (mul-one (1 ^ k) ∙ one_pow k)

-- the square of g to the power k
square_pow : (g k : ℕ) → (g * g) ^ k ≡ g ^ (2 * k)
square_pow g k = ap (λ (t : ℕ). t ^ k) square ∙ sym (pow_mul g 2 k)
  where
    square : g * g ≡ g ^ 2
    square = sym (pow-suc g 1 ∙ ap (λ (t : ℕ). t * g) (pow-suc g 0 ∙ (ap (λ (t : ℕ). t * g) (pow-zero g) ∙ one-mul g)))

-- one step of repeated squaring: g ^ e from `half`, which is g ^ (2 · (e / 2)) modulo n
squaring_step : (n g e half : ℕ) → half ≡ g ^ (2 * (e / 2)) % n → cond (eqb (e % 2) 1) ((g * half) % n) half ≡ g ^ e % n
squaring_step n g e half is = parity (eqb (e % 2) 1) refl
  where
    odd_power : e % 2 ≡ 1 → g * g ^ (2 * (e / 2)) ≡ g ^ e
    odd_power o = sym (pow-succ' g (2 * (e / 2))) ∙ ap (λ (t : ℕ). g ^ t) (omega arith)

    parity : (odd : Bool) → eqb (e % 2) 1 ≡ odd → cond odd ((g * half) % n) half ≡ g ^ e % n
    parity true t =
        (same_trans (same_mul same_refl (same_trans (same_of_eq is) (same_mod n (g ^ (2 * (e / 2))))))
        (same_of_eq (odd_power (eqb-true (e % 2) 1 t)))).same
    parity false t = is ∙ ap (λ (x : ℕ). g ^ x % n) even
      where
        even : 2 * (e / 2) ≡ e
        even = omega (arith, eqb-false (e % 2) 1 t)

-- repeated squaring computes the power modulo n
pub power_is : (n digits g e : ℕ) → e < 2 ^ digits → power n digits g e ≡ g ^ e % n
unfolding power
power_is n zero g e b = ap (λ (t : ℕ). t % n) (sym (ap (λ (t : ℕ). g ^ t) (omega arith) ∙ pow-zero g))
power_is n (suc digits) g e b =
    squaring_step n g e (power n digits ((g * g) % n) (e / 2))
    (power_is n digits ((g * g) % n) (e / 2) (omega arith)
    ∙ (same_trans (same_pow (same_mod n (g * g)) (e / 2)) (same_of_eq (square_pow g (e / 2)))).same)
