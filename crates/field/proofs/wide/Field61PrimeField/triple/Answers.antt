-- `field::wide::Field61::triple` meets its contract: the folded products are the same as the
-- products modulo 2⁶¹ − 1.
-- Assumes nothing.
use mathlib.Core.Path.{◌∙◌}
use Rattle.algebra.proofs.Modulo.{same_refl, same_trans}
use Rattle.field.specs.Field.{sub_of, triple_of}
use Rattle.field.proofs.Congruence.{triple_same}
use Rattle.field.proofs.wide.Field61PrimeField.triple.Goals as goal

pub returns : goal.returns
unfolding sub_of triple_of
returns c =
    let a = c.args in
    c.difference.ensures
    ∙ triple_same a.a a.b a.c a.x a.y a.z same_refl
    (same_trans c.fold-first.ensures.same c.product.ensures.value)
    (same_trans c.fold-second.ensures.same c.product-2.ensures.value)
    (same_trans c.fold-third.ensures.same c.product-3.ensures.value)
