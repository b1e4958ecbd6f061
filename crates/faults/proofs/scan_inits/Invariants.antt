-- `faults::scan_inits` meets its contract. The invariant of its loop: no init row passed has a
-- fault, so the scan is that of the rows left.
-- Assumes nothing.
use Prim.Native.Nat.{◌+◌}
use mathlib.Core.Path.{◌≡◌}
use lib.ListN.{drop}
use Rattle.field.specs.Moduli.{modulus_of}
use Rattle.runs.specs.Filler.{inputs_in}
use Rattle.faults.specs.Scan.{inits_scanned}
use Rattle.faults.proofs.scan_inits.Given as goal

abbrev pub invariant-loop-k : goal.invariant-loop-k
invariant-loop-k l =
    inits_scanned (modulus_of l.field) 1 (inputs_in l.inits) ≡ inits_scanned (modulus_of l.field) (l.k-counter + 1) (drop l.k-counter (inputs_in l.inits))
