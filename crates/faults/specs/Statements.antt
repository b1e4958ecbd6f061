-- What is shown of the definitions. proofs/ has the proof under the name that the comment gives.
-- Assumes nothing.
use Rattle.std.specs.Prelude.{ℕ, true, ◌≡◌, List, length, replicate}
use Rattle.memory.specs.declared.Memory.{Memory}
use Rattle.memory.specs.declared.Memory.TheVariants.{Set}
use Rattle.memory.specs.Rows.{sized}
use Rattle.runs.specs.Filler.{inputs_in, rows_fault}
use Rattle.index.specs.Values.{values_in}
use Rattle.index.specs.Tree.{grown}
use Rattle.faults.specs.Scan.{first_of}

-- "then each row 3, 5, 6, 11, 12, 13, place its number from 1": where the size is allowed, and the
-- links of a set are the tree grown over its elements in words of 0, the scan finds the first fault
-- of the rows. (FirstFault: scan_finds_first)
abbrev pub ScanFindsFirst : Type 0
ScanFindsFirst =
    (q : ℕ) (m : Memory) (inits links ops : List ℕ)
    → sized m (length (inputs_in inits)) ≡ true
    → (m ≡ Set → links ≡ grown (values_in inits) (replicate (length (values_in inits)) 0))
    → first_of q m inits links ops ≡ rows_fault q m (values_in inits) 1 (inputs_in inits) (inputs_in ops)
