-- `filler::ends::value_ends` meets its contract. The invariant of its loop: what is written and the
-- rows left make up the whole.
-- Assumes nothing.
use Prim.Native.Nat.{◌*◌}
use mathlib.Core.Path.{◌≡◌}
use lib.ListN.{drop}
use Rattle.index.specs.Values.{values_in}
use Rattle.layout.specs.Laid.{laid}
use Rattle.filler.specs.Ends.{value_ends}
use Rattle.filler.proofs.ends.value_ends.Given as goal

abbrev pub invariant-loop-i : goal.invariant-loop-i
invariant-loop-i l =
    laid l.initial.out 0 (value_ends 0 (values_in l.inits) l.keys) ≡ laid l.out (7 * l.i) (value_ends l.i (drop l.i (values_in l.inits)) l.keys)
