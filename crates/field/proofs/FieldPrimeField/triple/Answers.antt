-- `field::Field::triple` meets its contract: the folded products are the same as
-- the products modulo p.
-- Assumes nothing.
use mathlib.Core.Path.{◌∙◌}
use Rattle.algebra.proofs.Modulo.{same_refl}
use Rattle.field.specs.Field.{sub_of, triple_of}
use Rattle.field.proofs.Congruence.{triple_same}
use Rattle.field.proofs.FieldPrimeField.triple.Goals as goal

pub returns : goal.returns
unfolding sub_of triple_of
returns c =
    let a = c.args in
    c.difference.ensures
    ∙ triple_same a.a a.b a.c a.x a.y a.z same_refl c.product.ensures.same c.product-2.ensures.same c.product-3.ensures.same
