-- `filler::copy_inits` meets its contract. The invariant of its loop: what is written and the rows
-- left make up the whole, and no row left has a fault.
-- Assumes nothing.
use Prim.Native.Nat.{◌*◌}
use mathlib.Core.Path.{◌≡◌}
use mathlib.Core.List.{map}
use lib.ListN.{drop}
use Rattle.runs.specs.Honest.{bare}
use Rattle.runs.specs.Filler.{inputs_in}
use Rattle.layout.specs.Laid.{laid}
use Rattle.filler.proofs.InitRows.{CleanInits}
use Rattle.filler.proofs.copy_inits.Given as goal

abbrev pub invariant-loop-k : goal.invariant-loop-k
invariant-loop-k l =
    (laid l.initial.out 0 (map bare (inputs_in l.trace.inits.now)) ≡ laid l.out (7 * l.k) (map bare (drop l.k (inputs_in l.trace.inits.now)))) × CleanInits (drop l.k (inputs_in l.trace.inits.now))
