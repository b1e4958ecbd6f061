-- `field::Field::by_less` meets its contract: a multiple of p makes up for the sum, and the folded
-- factor has 33 bits.
-- Assumes nothing.
use Prim.Native.Nat.{◌<◌}
use mathlib.Core.Path.{◌∙◌}
use native.Mathlib.Nat.{mul-le-mul}
use native.Mathlib.Omega.{arith}
use Rattle.algebra.specs.Modulo.{times}
use Rattle.algebra.proofs.Modulo.{same_refl, same_sym, same_trans, same_of_eq, same_mod, times_same}
use Rattle.field.specs.Field.{p, sub_of, mul_of}
use Rattle.field.specs.Fold.{fold_of}
use Rattle.field.proofs.Reduction.{minus_multiple}
use Rattle.field.proofs.Field.by_less.Goals as goal

pub overflow_mul-product : goal.overflow_mul-product
unfolding p fold_of
overflow_mul-product c =
    let a = c.args in
    let few : c.fold-factor.result < 8589934592 = omega (arith, c.fold-factor.ensures.value, c.requires.1) in
    omega (arith, mul-le-mul {n₁ = a.product} {m₁ = c.fold-factor.result} {n₂ = 2147483647} {m₂ = 8589934591} c.requires.0 (omega (arith, few)))

pub returns : goal.returns
unfolding p mul_of sub_of times
returns c =
    let a = c.args in
    let sum_below = c.requires.2 in
    c.settled.ensures
    ∙ c.fold.ensures.same.same
    ∙ times_same same_refl
    (same_trans c.fold-factor.ensures.same
    (same_trans (same_sym (same_mod p _)) (same_of_eq (minus_multiple p 6442450944 a.r a.sum (omega arith) (omega (arith, sum_below))))))
