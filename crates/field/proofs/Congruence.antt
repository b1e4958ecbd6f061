-- The operations see only what their arguments are modulo q.
-- Assumes nothing.
use Prim.Native.Nat.{ℕ, ◌+◌, ◌*◌, ◌%◌}
use mathlib.Core.Path.{◌≡◌, ap}
use native.Mathlib.Omega.{arith}
use Rattle.algebra.specs.Modulo.{Same, plus, minus, times}
use Rattle.algebra.proofs.Modulo.{same_trans, same_of_eq, same_mod, same_add, same_mul, minus_same, times_same}
use Rattle.field.specs.Field.{mul_of, triple_of, pair_of}

pub plus_same : {q x x' y y' : ℕ} → Same q x x' → Same q y y' → plus q x y ≡ plus q x' y'
unfolding plus
plus_same hx hy = (same_add hx hy).same

-- a step of the hash
pub step_same :
    {q h h' r r' x x' : ℕ} → Same q h h' → Same q r r' → Same q x x' → (h * r + x) % q ≡ (h' * r' + x') % q
step_same hh hr hx = (same_add (same_mul hh hr) hx).same

-- the factor of a pair, and of a triple, of products that were computed apart
pub pair_same :
    {q r r' u v : ℕ} (a b x y : ℕ) → Same q r r' → Same q u (a * x) → Same q v (b * y)
    → minus q r (u + v) ≡ minus q r' (a * x + b * y)
pair_same a b x y hr hu hv = minus_same hr (same_add hu hv)

pub triple_same :
    {q r r' u v w : ℕ} (a b c x y z : ℕ) → Same q r r' → Same q u (a * x) → Same q v (b * y) → Same q w (c * z)
    → minus q r (u + v + w) ≡ minus q r' (a * x + b * y + c * z)
triple_same a b c x y z hr hu hv hw = minus_same hr (same_add (same_add hu hv) hw)

-- a pair is a triple with a last number 0
pub no_third : (q s r a b x y : ℕ) → mul_of q s (triple_of q r a b 0 x y 0) ≡ mul_of q s (pair_of q r a b x y)
unfolding triple_of pair_of
no_third q s r a b x y = ap (λ (k : ℕ). mul_of q s (minus q r k)) (omega arith)

-- a product modulo q is the same as the product
pub same_times : {q r : ℕ} (x y : ℕ) → r ≡ times q x y → Same q r (x * y)
unfolding times
same_times {q} x y e = same_trans (same_of_eq e) (same_mod q (x * y))

pub ruleset congruence = (plus_same, minus_same, times_same, step_same)
