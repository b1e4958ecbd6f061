-- Arithmetic modulo q: `Same q` is an equivalence that sums and products respect, an addend can be cancelled from it, and q times
-- anything is 0 in it. For q = suc p the number p * x stands for −x.
-- Assumes nothing.
use Prim.Native.Nat.{ℕ, zero, suc, ◌+◌, ◌-◌, ◌*◌, ◌/◌, ◌%◌, ◌<◌}
use mathlib.Core.Path.{◌≡◌, refl, sym, ◌∙◌, ap, ap₂}
use native.Mathlib.Nat.{add-mod, mod-mod, mod-zero, zero-mod, mod-add-div, mod-lt, mod-eq_of_lt, mod_self, le_of_lt, add-sub_of_le, zero-lt-suc}
use native.Mathlib.Nat.{add-mul-mod_self_left, mul-mod_right, mul_comm, add_right_cancel}
use native.Mathlib.Omega.{arith}
use Rattle.algebra.specs.Modulo.{Same, minus, times}

-- equal numbers are the same modulo q
pub same_of_eq : {q x y : ℕ} → x ≡ y → Same q x y
same_of_eq {q} e = record { same = ap (λ (t : ℕ). t % q) e }

-- an equivalence
pub same_refl : {q x : ℕ} → Same q x x
same_refl = record { same = refl }

pub same_sym : {q x y : ℕ} → Same q x y → Same q y x
same_sym s = record { same = sym s.same }

pub same_trans : {q x y z : ℕ} → Same q x y → Same q y z → Same q x z
same_trans s t = record { same = s.same ∙ t.same }

-- a number is the same as its remainder
pub same_mod : (q x : ℕ) → Same q (x % q) x
same_mod q x = record { same = mod-mod x q }

-- 0 modulo q as a remainder, and as the same as 0
pub same_zero : {q x : ℕ} → x % q ≡ 0 → Same q x 0
same_zero {q} e = record { same = e ∙ sym (zero-mod q) }

pub zero_of_same : {q x : ℕ} → Same q x 0 → x % q ≡ 0
zero_of_same {q} s = s.same ∙ zero-mod q

-- numbers below q that are the same are equal
pub same_below : {q x y : ℕ} → x < q → y < q → Same q x y → x ≡ y
same_below lx ly s = sym (mod-eq_of_lt lx) ∙ (s.same ∙ mod-eq_of_lt ly)

-- sums respect it
pub same_add : {q x x' y y' : ℕ} → Same q x x' → Same q y y' → Same q (x + y) (x' + y')
same_add {q} {x} {x'} {y} {y'} s t =
    record { same = add-mod x y q ∙ (ap₂ (λ (u v : ℕ). (u + v) % q) s.same t.same ∙ sym (add-mod x' y' q)) }

-- q times anything is 0
pub same_multiple : (q k : ℕ) → Same q (q * k) 0
same_multiple q k = same_zero (mul-mod_right q k)

-- a multiple of q added changes nothing
pub same_add_multiple : (q x k : ℕ) → Same q (x + q * k) x
same_add_multiple q x k = record { same = add-mul-mod_self_left x q k }

-- the left factor may be replaced by its remainder
same_mod_mul : (q x y : ℕ) → Same q (x % q * y) (x * y)
same_mod_mul q x y = same_sym (same_trans (same_of_eq split) (same_add_multiple q (x % q * y) (x / q * y)))
  where
    split : x * y ≡ x % q * y + q * (x / q * y)
    split = ap (λ (t : ℕ). t * y) (sym (mod-add-div x q)) ∙ omega arith

-- the left factor may be replaced by one that is the same
same_mul_left : {q x x' : ℕ} (y : ℕ) → Same q x x' → Same q (x * y) (x' * y)
same_mul_left {q} {x} {x'} y s =
    same_trans (same_sym (same_mod_mul q x y))
    (same_trans (same_of_eq (ap (λ (t : ℕ). t * y) s.same)) (same_mod_mul q x' y))

-- products respect it
pub same_mul : {q x x' y y' : ℕ} → Same q x x' → Same q y y' → Same q (x * y) (x' * y')
same_mul {q} {x} {x'} {y} {y'} s t =
    same_trans (same_mul_left y s)
    (same_trans (same_of_eq (mul_comm x' y)) (same_trans (same_mul_left x' t) (same_of_eq (mul_comm y' x'))))

-- x + p · x is 0 modulo p + 1
pub same_negate : (p x : ℕ) → Same (suc p) (x + p * x) 0
same_negate p x = same_trans (same_of_eq (omega arith)) (same_multiple (suc p) x)

-- x + z + p · z is x modulo p + 1
same_add_negate : (p x z : ℕ) → Same (suc p) (x + z + p * z) x
same_add_negate p x z = same_trans (same_of_eq (omega arith)) (same_add_multiple (suc p) x z)

-- x + p · y is 0 modulo p + 1 only where x and y are the same
pub same_of_difference : (p x y : ℕ) → Same (suc p) (x + p * y) 0 → Same (suc p) x y
same_of_difference p x y s =
    same_trans (same_sym (same_add_multiple (suc p) x y))
    (same_trans (same_of_eq (omega arith)) (same_trans (same_add s (same_refl {x = y})) (same_of_eq (omega arith))))

-- an addend that stands on both sides can be cancelled
pub same_cancel_right : {q x y : ℕ} (z : ℕ) → Same q (x + z) (y + z) → Same q x y
same_cancel_right {q = zero} {x} {y} z s =
    same_of_eq (add_right_cancel z (sym (mod-zero (x + z)) ∙ (s.same ∙ mod-zero (y + z))))
same_cancel_right {q = suc p} {x} {y} z s =
    same_trans (same_sym (same_add_negate p x z)) (same_trans (same_add s same_refl) (same_add_negate p y z))

pub same_cancel_left : {q x y : ℕ} (z : ℕ) → Same q (z + x) (z + y) → Same q x y
same_cancel_left z s = same_cancel_right z (same_trans (same_of_eq (omega arith)) (same_trans s (same_of_eq (omega arith))))

-- the difference modulo p + 1, as a sum: x − y is x + p · y
pub same_minus : (p x y : ℕ) → Same (suc p) (minus (suc p) x y) (x + p * y)
unfolding minus
same_minus p x y = same_trans (same_mod (suc p) _) (same_add same_refl (same_cancel_left y (same_trans to_zero (same_sym (same_negate p y)))))
  where
    to_zero : Same (suc p) (y + (suc p - y % suc p)) 0
    to_zero =
        same_trans (same_add (same_sym (same_mod (suc p) y)) same_refl)
        (same_trans (same_of_eq (add-sub_of_le (le_of_lt (mod-lt y (zero-lt-suc p))))) (same_zero (mod_self (suc p))))

-- the difference added to what was taken away gives the whole
pub same_minus_add : (p x y : ℕ) → Same (suc p) (minus (suc p) x y + y) x
same_minus_add p x y =
    same_trans (same_add (same_minus p x y) same_refl)
    (same_trans (same_of_eq (omega arith)) (same_add_multiple (suc p) x y))

-- differences and products modulo q see only what their arguments are modulo q
pub minus_same : {q x x' y y' : ℕ} → Same q x x' → Same q y y' → minus q x y ≡ minus q x' y'
unfolding minus
minus_same {q} s t = (same_add s (same_of_eq (ap (λ (u : ℕ). q - u) t.same))).same

pub times_same : {q x x' y y' : ℕ} → Same q x x' → Same q y y' → times q x y ≡ times q x' y'
unfolding times
times_same s t = (same_mul s t).same

-- so the arguments may be reduced first: one law each for sums, differences and products
pub mod_sum : (q x y : ℕ) → (x % q + y % q) % q ≡ (x + y) % q
mod_sum q x y = (same_add (same_mod q x) (same_mod q y)).same

pub mod_difference : (q x y : ℕ) → minus q (x % q) (y % q) ≡ minus q x y
mod_difference q x y = minus_same (same_mod q x) (same_mod q y)

pub mod_product : (q x y : ℕ) → (x % q * (y % q)) % q ≡ (x * y) % q
mod_product q x y = (same_mul (same_mod q x) (same_mod q y)).same
