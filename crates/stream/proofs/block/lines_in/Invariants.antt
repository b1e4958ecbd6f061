-- `stream::block::lines_in` meets its contract. The loop's invariant: the used bytes are read.
-- Assumes nothing.
use Prim.Native.Nat.{◌-◌, ◌≤◌}
use mathlib.Core.Path.{◌≡◌}
use mathlib.Core.List.{[]}
use lib.ListN.{length, take}
use Rattle.field.specs.Moduli.{modulus_of}
use Rattle.memory.specs.Pieces.{piece, bytes_in}
use Rattle.memory.specs.Stream.{line_of}
use Rattle.stream.proofs.block.lines_in.Given as goal

abbrev pub invariant-loop-at : goal.invariant-loop-at
invariant-loop-at l =
    (l.used ≤ length l.block) × (bytes_in (line_of (modulus_of l.k)) (piece l.initial.stand []) (take l.used l.block) ≡ piece l.stand [])

abbrev pub decreases-loop-at : goal.decreases-loop-at
decreases-loop-at l = length l.block - l.used
