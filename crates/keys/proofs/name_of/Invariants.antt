-- `keys::name_of` meets its contract. The loop's invariant: the key of the bytes that were passed, with those that are left, is the key of the name.
-- Assumes nothing.
use Rattle.keys.proofs.Names.{Naming}
use Rattle.keys.proofs.name_of.Given as goal

abbrev pub invariant-loop-i : goal.invariant-loop-i
invariant-loop-i l = Naming l.text l.stop l.key l.i
