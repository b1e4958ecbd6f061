-- `decimal::number_at` meets its contract: after a comma, where the digits end and their first byte decide whether they are a number.
-- Assumes nothing.
use Rattle.std.proofs.Common.{sym, ◌∙◌, arith}
use Rattle.decimal.proofs.Numbers.{number_past, number_uncomma, number_comma, digits_most, digits_end, found_none, found_zero, found_long, found_one}
use Rattle.decimal.proofs.number_at.Goals as goal
use Rattle.decimal.proofs.number_at.Goals.{then-text-at-via-then-text-at, then-text-at-via-else-text-at+then-text-at-ne-COMMA, else-from-found-via-then-from-found+else-text-from-eq-ZERO, else-from-found-via-else-from-found}

pub returns-then-text-at : goal.returns-then-text-at
returns-then-text-at c =
    elim c.then-text-at.branch [
      | then-text-at-via-then-text-at w ↦ sym (number_past _ _ w.if-text-at.true)
      | then-text-at-via-else-text-at+then-text-at-ne-COMMA w ↦ sym (number_uncomma _ _ w.if-text-at.false w.if-text-at-ne-COMMA.true)
    ]

pub returns-then-found-from : goal.returns-then-found-from
returns-then-found-from c = found_none _ _ _ (c.digits_at-found.ensures ∙ digits_most _ _ _ c.min.ensures) c.if-found-from.true ∙ sym (number_comma _ _ c.if-text-at.false c.if-text-at-ne-COMMA.false)

pub bounds-text-from : goal.bounds-text-from
bounds-text-from c = omega (arith, digits_end _ _ _ (c.digits_at-found.ensures ∙ digits_most _ _ _ c.min.ensures) (omega arith))

pub returns-then-text-from-eq-ZERO : goal.returns-then-text-from-eq-ZERO
returns-then-text-from-eq-ZERO c = found_zero _ _ _ (c.digits_at-found.ensures ∙ digits_most _ _ _ c.min.ensures) c.if-from-found.true c.if-text-from-eq-ZERO.true ∙ sym (number_comma _ _ c.if-text-at.false c.if-text-at-ne-COMMA.false)

pub returns : goal.returns
returns c =
    let is = c.digits_at-found.ensures ∙ digits_most _ _ _ c.min.ensures in
    (elim c.else-from-found.branch [
      | else-from-found-via-then-from-found+else-text-from-eq-ZERO w ↦ found_long _ _ _ is w.if-from-found.true w.if-text-from-eq-ZERO.false
      | else-from-found-via-else-from-found w ↦ found_one _ _ _ is c.if-found-from.false w.if-from-found.false
    ])
    ∙ sym (number_comma _ _ c.if-text-at.false c.if-text-at-ne-COMMA.false)
