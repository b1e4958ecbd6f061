-- What the code computes from reduced numbers is what the definitions say of the numbers themselves: differences, and the factors of records.
-- Assumes nothing.
use Prim.Native.Nat.{ℕ, ◌%◌}
use mathlib.Core.Path.{◌≡◌, ap}
use native.Mathlib.Omega.{arith}
use Rattle.algebra.specs.Modulo.{Same, minus}
use Rattle.algebra.proofs.Modulo.{same_refl, same_mod, same_add, same_mul, minus_same}
use Rattle.field.specs.Field.{pair_of}
use Rattle.memory.specs.declared.Challenge.{Challenge}
use Rattle.memory.specs.Equations.{triple, pair, factor}

-- a difference from a remainder
pub minus_reduced : (q x y : ℕ) → minus q (x % q) y ≡ minus q x y
minus_reduced q x y = minus_same (same_mod q x) same_refl

-- the factor of a record depends on its remainders alone
factor_same :
    {q : ℕ} (ch : Challenge) {x x' : ℕ} (y : ℕ) {z z' : ℕ} → Same q x x' → Same q z z' → factor q ch (triple x y z) ≡ factor q ch (triple x' y z')
unfolding factor triple
factor_same ch y sx sz = minus_same same_refl (same_add (same_add (same_mul same_refl sx) same_refl) (same_mul same_refl sz))

pub factor_first_reduced : (q : ℕ) (ch : Challenge) (x y z : ℕ) → factor q ch (triple (x % q) y z) ≡ factor q ch (triple x y z)
factor_first_reduced q ch x y z = factor_same ch y (same_mod q x) same_refl

pub factor_last_reduced : (q : ℕ) (ch : Challenge) (x y z : ℕ) → factor q ch (triple x y (z % q)) ≡ factor q ch (triple x y z)
factor_last_reduced q ch x y z = factor_same ch y same_refl (same_mod q z)

pub pair_first_reduced : (q : ℕ) (ch : Challenge) (x y : ℕ) → factor q ch (pair (x % q) y) ≡ factor q ch (pair x y)
unfolding pair
pair_first_reduced q ch x y = factor_first_reduced q ch x y 0

-- the factor of a pair
pub pair_factor : (q : ℕ) (ch : Challenge) (x y : ℕ) → pair_of q ch.r ch.a ch.b x y ≡ factor q ch (pair x y)
unfolding pair_of factor pair triple
pair_factor q ch x y = ap (λ (t : ℕ). minus q ch.r t) (omega arith)
