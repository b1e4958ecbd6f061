-- `filler::ends::cell_ends` meets its contract. The invariant of its loop: what is written and the
-- rows left make up the whole.
-- Assumes nothing.
use Prim.Native.Nat.{◌+◌, ◌*◌, ◌-◌}
use mathlib.Core.Path.{◌≡◌}
use Rattle.layout.specs.Laid.{laid}
use Rattle.filler.specs.Ends.{cell_ends}
use Rattle.filler.proofs.ends.cell_ends.Given as goal

abbrev pub invariant-loop-i : goal.invariant-loop-i
invariant-loop-i l =
    laid l.initial.out 0 (cell_ends l.trace.inits.now l.trace.ops.now l.from l.count l.scratch) ≡ laid l.out (7 * l.i) (cell_ends l.trace.inits.now l.trace.ops.now (l.from + l.i) (l.count - l.i) l.scratch)
