-- `field::wide::Field61::product` meets its contract: each folded number is its two halves.
-- Assumes nothing.
use Prim.Native.Nat.{ℕ, ◌*◌}
use mathlib.Core.Path.{ap₂}
use native.Mathlib.Nat.{div-add-mod'}
use Rattle.algebra.proofs.Modulo.{same_of_eq, same_trans, same_mul}
use Rattle.field.specs.Wide.{p61}
use Rattle.field.proofs.wide.Field61.product.Goals as goal

pub returns-clause-value : goal.returns-clause-value
unfolding p61
returns-clause-value c =
    same_trans c.halves.ensures.value
    (same_trans (same_of_eq (ap₂ (λ (u v : ℕ). u * v) (div-add-mod' c.fold-u.result 2147483648) (div-add-mod' c.fold-v.result 2147483648)))
    (same_mul c.fold-u.ensures.same c.fold-v.ensures.same))
