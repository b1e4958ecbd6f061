-- `field::Field::pair` meets its contract: the folded products are the same as
-- the products modulo p.
-- Assumes nothing.
use mathlib.Core.Path.{◌∙◌}
use Rattle.algebra.proofs.Modulo.{same_refl}
use Rattle.field.specs.Field.{sub_of, pair_of}
use Rattle.field.proofs.Congruence.{pair_same}
use Rattle.field.proofs.FieldPrimeField.pair.Goals as goal

pub returns : goal.returns
unfolding sub_of pair_of
returns c =
    let a = c.args in
    c.difference.ensures ∙ pair_same a.a a.b a.x a.y same_refl c.product.ensures.same c.product-2.ensures.same
