-- `filler::write::operations` meets its contract. The invariant of its loop: a run of so many
-- operations.
-- Assumes nothing.
use mathlib.Core.Path.{◌≡◌}
use lib.ListN.{length}
use Rattle.filler.proofs.Onward.{Given}
use Rattle.filler.proofs.Progress.{Progress, Wide}
use Rattle.filler.proofs.write.operations.Given as goal

abbrev pub invariant-loop-k : goal.invariant-loop-k
invariant-loop-k l =
    (length l.scratch ≡ length l.initial.scratch) × Given l.trace.width l.trace.t l.trace.ops.now l.initial.out × Wide l.trace.memory l.trace.width l.trace.t l.trace.inits.now × Progress l.trace.memory l.trace.width l.trace.t l.trace.inits.now l.trace.ops.now l.initial.out l.k l.at l.out l.scratch
