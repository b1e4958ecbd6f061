-- `fields::read` meets its contract. The loop's invariant: the numbers that were passed are in the
-- slice, it is known whether they are below the modulus, and those that are left are still to be
-- read.
-- Assumes nothing.
use Rattle.std.proofs.Common.{arith, ⊎_elim}
use Rattle.fields.specs.Keyed.{taken_of}
use Rattle.fields.proofs.Fields.{reading_begins, reading_goes, reading_fails, reading_ends, reading_over, line_long, line_broken}
use Rattle.fields.proofs.read.Goals as goal

pub returns-then-text-gt-LONGEST-clause-answer : goal.returns-then-text-gt-LONGEST-clause-answer
unfolding taken_of
returns-then-text-gt-LONGEST-clause-answer c =
    ⊎_elim (λ w. line_long _ _ _ _ w) (λ w. line_broken _ _ _ _ w.1) c.then-text-gt-LONGEST.either

pub loop-number-init : goal.loop-number-init
loop-number-init c = reading_begins _ _ c.if-text-gt-LONGEST.false c.if-not-ended.false c.name_of-name.ensures

pub returns-in_default-clause-answer : goal.returns-in_default-clause-answer
unfolding taken_of
returns-in_default-clause-answer c =
    rw (← c.modulus-q.ensures) (reading_fails c.loop-number.invariant (omega arith) c.number_at.ensures c.in_default.is)

pub loop-number-preserved : goal.loop-number-preserved
loop-number-preserved c = reading_goes c.loop-number.invariant (omega arith) c.number_at.ensures c.in-Some.is

pub returns-then-next-text-clause-answer : goal.returns-then-next-text-clause-answer
unfolding taken_of
returns-then-next-text-clause-answer c =
    rw (← c.modulus-q.ensures) (reading_over c.loop-number.invariant (omega arith) c.if-next-text.true)

pub returns-clause-answer : goal.returns-clause-answer
unfolding taken_of
returns-clause-answer c =
    rw (← c.modulus-q.ensures) (reading_ends c.loop-number.invariant (omega arith) c.name_of-name.ensures c.if-next-text.false)
