-- `field::small::SmallModulus::triple` meets its contract.
-- Assumes nothing.
use mathlib.Core.Path.{◌∙◌}
use Rattle.algebra.proofs.Modulo.{same_refl}
use Rattle.field.specs.Field.{sub_of, mul_of, triple_of}
use Rattle.field.proofs.Congruence.{triple_same, same_times}
use Rattle.field.proofs.small.SmallModulus.triple.Goals as goal

pub returns : goal.returns
unfolding sub_of mul_of triple_of
returns c =
    let a = c.args in
    c.sub.ensures
    ∙ triple_same a.a a.b a.c a.x a.y a.z same_refl
    (same_times _ _ c.mul.ensures.value)
    (same_times _ _ c.mul-2.ensures.value)
    (same_times _ _ c.mul-3.ensures.value)
