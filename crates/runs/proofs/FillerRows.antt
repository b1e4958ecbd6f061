-- The numbers in the slices of the filler of document 01 stand for its memory and its input rows.
-- Assumes nothing.
use Prim.Native.Nat.{◌*◌}
use native.Mathlib.Omega.{arith}
use mathlib.Core.Path.{◌≡◌, refl}
use Rattle.std.specs.Prelude.{Some}
use mathlib.Core.List.{List, [], ◌∷◌, ◌++◌}
use lib.ListN.{length}
use Rattle.memory.specs.declared.Memory.{Memory}
use Rattle.memory.specs.declared.Memory.TheVariants.{Ram, Rom, Set, Stack, Queue}
use Rattle.memory.proofs.Content.{Single}
use Rattle.memory.proofs.Operations.{op_coded_lem}
use Rattle.runs.specs.Honest.{Input}
use Rattle.runs.specs.Filler.{inputs_in, input_numbers}
use Rattle.memory.specs.Names.{memory_code, memory_coded}

-- the numbers of memories
pub memory_coded_lem : (m : Memory) → memory_coded (memory_code m) ≡ Some m
unfolding memory_coded memory_code
memory_coded_lem Ram = refl
memory_coded_lem Rom = refl
memory_coded_lem Set = refl
memory_coded_lem Stack = refl
memory_coded_lem Queue = refl

-- the values of input rows are nothing but their numbers
abbrev pub SingleInputs : List Input → Type 0
SingleInputs [] = Unit {0}
SingleInputs (i ∷ is) = Single i.value × SingleInputs is

pub single_append : (is js : List Input) → SingleInputs is → SingleInputs js → SingleInputs (is ++ js)
single_append [] js a b = b
single_append (i ∷ is) js a b = (a.0, single_append is js a.1 b)

-- the numbers of such input rows stand for them
pub inputs_coded : (is : List Input) → SingleInputs is → inputs_in (input_numbers is) ≡ is
unfolding inputs_in input_numbers
inputs_coded [] s = refl
inputs_coded (i ∷ is) s =
    λ j. record { op = op_coded_lem i.op j; guard = i.guard; addr = i.addr; value = s.0 j } ∷ inputs_coded is s.1 j

-- 4 numbers an input row
pub input_numbers_length : (is : List Input) → length (input_numbers is) ≡ 4 * length is
unfolding input_numbers
input_numbers_length [] = refl
input_numbers_length (i ∷ is) = omega (arith, input_numbers_length is)
