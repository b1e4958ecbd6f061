-- `faults::scan_operations` meets its contract. The invariant of its loop: no operation passed has
-- a fault, so the scan is that of the operations left, from the level that has been reached.
-- Assumes nothing.
use Prim.Native.Nat.{◌+◌, ◌≤◌}
use mathlib.Core.Path.{◌≡◌}
use lib.ListN.{drop}
use Rattle.field.specs.Moduli.{modulus_of}
use Rattle.runs.specs.Filler.{inputs_in}
use Rattle.index.specs.Values.{values_in}
use Rattle.faults.specs.Scan.{scanned, in_tree, operations_scanned}
use Rattle.faults.proofs.scan_operations.Given as goal

abbrev pub invariant-loop-k : goal.invariant-loop-k
invariant-loop-k l =
    (l.level ≤ l.n + l.k-counter) × (operations_scanned (modulus_of l.field) l.m l.tree.inits.now l.tree.links.now l.ops ≡ scanned (modulus_of l.field) l.m (in_tree (values_in l.tree.inits.now) l.tree.links.now) l.level (l.n + l.k-counter + 1) (drop l.k-counter (inputs_in l.ops)))
