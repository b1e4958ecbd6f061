-- `intake::lines_in` meets its contract. The loop's invariant: the used bytes are read.
-- Assumes nothing.
use Prim.Native.Nat.{◌-◌, ◌≤◌}
use mathlib.Core.Path.{◌≡◌}
use mathlib.Core.List.{[]}
use lib.ListN.{length, take}
use Rattle.field.specs.Moduli.{modulus_of}
use Rattle.memory.specs.Pieces.{piece, bytes_in}
use Rattle.runs.specs.FillStream.{gathered, line_taken}
use Rattle.intake.proofs.lines_in.Given as goal

abbrev pub invariant-loop-at : goal.invariant-loop-at
invariant-loop-at l =
    ((l.used ≤ length l.block) × (length l.words ≡ length l.initial.words))
    × (bytes_in (line_taken (modulus_of l.field)) (piece (gathered l.initial.intake l.initial.words) []) (take l.used l.block) ≡ piece (gathered l.intake l.words) [])

abbrev pub decreases-loop-at : goal.decreases-loop-at
decreases-loop-at l = length l.block - l.used
