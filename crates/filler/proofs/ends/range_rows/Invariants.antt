-- `filler::ends::range_rows` meets its contract. The invariant of its loop: what is written and the
-- rows left make up the whole.
-- Assumes nothing.
use Prim.Native.Nat.{◌*◌, ◌-◌}
use mathlib.Core.Path.{◌≡◌}
use lib.ListN.{length}
use Rattle.layout.specs.Laid.{laid}
use Rattle.filler.specs.Ends.{ranges}
use Rattle.filler.proofs.ends.range_rows.Given as goal

abbrev pub invariant-loop-i : goal.invariant-loop-i
invariant-loop-i l =
    laid l.initial.out 0 (ranges 0 (length l.lookups) l.lookups) ≡ laid l.out (7 * l.i) (ranges l.i (length l.lookups - l.i) l.lookups)
