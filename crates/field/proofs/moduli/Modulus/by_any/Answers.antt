-- `field::moduli::Modulus::by_any` meets its contract: modulo 2³¹ − 1 the numbers of 32 bits give
-- what the given ones would.
-- Assumes nothing.
use mathlib.Core.Path.{◌∙◌}
use Rattle.algebra.proofs.Modulo.{same_mul, same_of_eq, times_same}
use Rattle.field.specs.Field.{mul_of, triple_of}
use Rattle.field.proofs.Congruence.{triple_same}
use Rattle.field.proofs.Variants.{at31}
use Rattle.field.proofs.moduli.Modulus.by_any.Goals as goal

pub returns-in-M31 : goal.returns-in-M31
unfolding mul_of triple_of
returns-in-M31 c =
    let a = c.args in
    rw (at31 c.in-M31.is)
    (c.mul.ensures
    ∙ times_same c.word-in-M31-7.ensures
    (same_of_eq
    (c.triple-factor.ensures
    ∙ triple_same a.a a.b a.c a.x a.y a.z c.word.ensures
    (same_mul c.word-in-M31.ensures c.word-in-M31-4.ensures)
    (same_mul c.word-in-M31-2.ensures c.word-in-M31-5.ensures)
    (same_mul c.word-in-M31-3.ensures c.word-in-M31-6.ensures))))
