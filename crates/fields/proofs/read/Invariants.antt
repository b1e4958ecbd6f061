-- `fields::read` meets its contract. The loop's invariant: the numbers that were passed are in the
-- slice, it is known whether they are below the modulus, and those that are left are still to be
-- read.
-- Assumes nothing.
use lib.ListN.{length}
use Rattle.fields.proofs.Fields.{Reading}
use Rattle.fields.proofs.read.Given as goal

abbrev pub invariant-loop-number : goal.invariant-loop-number
invariant-loop-number l = Reading l.q (length l.initial.numbers) l.text l.ended l.numbers l.number-index l.next l.below
