-- A difference modulo q that does not wrap: the depth of a stack or queue.
-- Assumes nothing.
use Prim.Native.Nat.{ℕ, zero, suc, ◌+◌, ◌-◌, ◌%◌, ◌<◌}
use mathlib.Core.Path.{◌≡◌, sym}
use native.Mathlib.Nat.{mod-lt}
use native.Mathlib.Omega.{arith}
use Rattle.algebra.specs.Modulo.{minus}
use Rattle.algebra.proofs.Modulo.{same_trans, same_of_eq, same_below, same_cancel_right, same_minus_add}

-- a difference modulo q is below q
minus_below : (p x y : ℕ) → minus (suc p) x y < suc p
unfolding minus
minus_below p x y = mod-lt (x + (suc p - y % suc p)) (omega arith)

-- a difference below q is itself modulo q
pub minus_exact : (q x y d : ℕ) → d + y ≡ x → d < q → minus q x y ≡ d
minus_exact zero x y d e l = absurd (omega arith)
minus_exact (suc p) x y d e l =
    same_below (minus_below p x y) l (same_cancel_right y (same_trans (same_minus_add p x y) (same_of_eq (sym e))))
