-- The operations of a stack or queue in the filler's input: as for the rows of a file, a statement about an input is shown by four cases.
-- Assumes nothing.
use Prim.Native.Nat.{ℕ}
use mathlib.Core.Path.{◌≡◌}
use mathlib.Core.Bool.{true}
use mathlib.Core.List.{List, [], ◌∷◌}
use lib.Dec.{leb}
use Rattle.memory.specs.declared.Memory.{Memory}
use Rattle.memory.specs.declared.Op.{Op}
use Rattle.memory.specs.declared.Phase.TheVariants.{Operating}
use Rattle.memory.specs.Rows.{ops_due, op_in}
use Rattle.memory.proofs.Operations.{op_cases}
use Rattle.runs.specs.Honest.{Input}

-- each input's op is due among the operations of the memory, and its guard is 0 or 1
abbrev pub Inputs : Memory → List Input → Type 0
Inputs m [] = Unit {0}
Inputs m (i ∷ is) = (op_in i.op (ops_due m Operating) ≡ true) × (leb i.guard 1 ≡ true) × Inputs m is

-- an input with the given op and guard, and the other columns of an input
unfoldable pub input_at : Op → ℕ → Input → Input
input_at o g i = record { op = o; guard = g; addr = i.addr; value = i.value }

-- a statement about an input, by the four cases
pub input_cases :
    (P : Input → Type 0) (x y : Op) (i : Input) → P (input_at x 1 i) → P (input_at x 0 i) → P (input_at y 1 i) → P (input_at y 0 i)
    → op_in i.op (x ∷ y ∷ []) ≡ true → leb i.guard 1 ≡ true → P i
unfolding input_at
input_cases P x y i x1 x0 y1 y0 = op_cases (λ o g. P (input_at o g i)) x y x1 x0 y1 y0 i.op i.guard
