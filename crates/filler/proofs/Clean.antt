-- Where the rows have no fault, neither scan finds one.
--     clean_inits, clean_operations    the scan of the init rows, and that of the operations
-- Assumes nothing.
use Prim.Native.Nat.{ℕ, ◌+◌}
use mathlib.Core.Bool.{Bool, true, false, cond}
use mathlib.Core.Path.{◌≡◌, refl, sym, ap, ◌∙◌}
use mathlib.Core.List.{List}
use lib.Dec.{eqb}
use lib.ListN.{length}
use borrow.Author.Tests.{eqb-true, eqb-false}
use Rattle.memory.specs.declared.Memory.{Memory}
use Rattle.memory.specs.Rows.{sized}
use Rattle.runs.specs.Honest.{Input}
use Rattle.runs.specs.Filler.{rows_fault, Placed}
use Rattle.faults.specs.Scan.{scanned, inits_scanned}
use Rattle.faults.proofs.FirstFault.{first_fault_lem}
use Rattle.filler.specs.Write.{in_set}

module _ (q : ℕ) (m : Memory) (values : List ℕ) (is ops : List Input) (n : ℕ) (many : length values ≡ n) (count : length is ≡ n) (allowed : sized m n ≡ true)
    (none : (rows_fault q m values 1 is ops).number ≡ 0) where
  both : ((inits_scanned q 1 is).number ≡ 0) × ((scanned q m (in_set values) n (n + 1) ops).number ≡ 0)
  both =
      go (eqb (inits_scanned q 1 is).number 0) refl
      (ap (λ (f : Placed). f.number) (sym (first_fault_lem q m (in_set values) values is ops n many count allowed (λ e v. refl))) ∙ none)
    where
      go : (b : Bool) → eqb (inits_scanned q 1 is).number 0 ≡ b → (cond b (scanned q m (in_set values) n (n + 1) ops) (inits_scanned q 1 is)).number ≡ 0
          → ((inits_scanned q 1 is).number ≡ 0) × ((scanned q m (in_set values) n (n + 1) ops).number ≡ 0)
      go true e h = (eqb-true _ 0 e, h)
      go false e h = absurd (eqb-false _ 0 e h)

  pub clean_inits : (inits_scanned q 1 is).number ≡ 0
  clean_inits = both.0

  pub clean_operations : (scanned q m (in_set values) n (n + 1) ops).number ≡ 0
  clean_operations = both.1
