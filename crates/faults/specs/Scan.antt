-- The first fault of the input rows, as a scan finds it that keeps no content: "then each row 3, 5,
-- 6, 11, 12, 13, place its number from 1". Of a ram and a rom the number of cells matters, of a
-- stack and a queue the depth, of a set which values are in it. The number of cells, or the depth,
-- is the level.
-- Assumes nothing.
use Rattle.std.specs.Prelude.{ℕ, suc, ◌+◌, ◌-◌, Bool, cond, List, [], ◌∷◌, eqb, ltb, length}
use Rattle.std.specs.Prelude.{Result, Ok, Err}
use Rattle.memory.specs.Faults.{fault_number}
use Rattle.memory.specs.declared.Memory.{Memory}
use Rattle.memory.specs.declared.Memory.TheVariants.{Ram, Rom, Set, Stack, Queue}
use Rattle.memory.specs.declared.Phase.TheVariants.{Starting, Operating}
use Rattle.memory.specs.Rows.{ops_due}
use Rattle.memory.specs.Names.{op_code}
use Rattle.runs.specs.Honest.{Input}
use Rattle.runs.specs.Filler.{inputs_in, input_fault, Placed, placed}
use Rattle.index.specs.Values.{values_in}
use Rattle.index.specs.Tree.{found}
use Rattle.faults.specs.declared.Refused.{Refused}

-- 11: an address that is not below the level
abbrev pub outside : ℕ → ℕ → ℕ
outside a level = cond (ltb a level) 0 11

-- 12: an executed pop or dequeue at depth 0
abbrev pub emptied : Bool → ℕ → ℕ → ℕ
emptied up g level = cond up 0 (cond (eqb g 1) (cond (ltb 0 level) 0 12) 0)

-- 13: a value that a test does not find in the set
abbrev pub missing : (ℕ → Bool) → ℕ → ℕ
missing member v = cond (member v) 0 13

-- 11, 12 and 13, at a level
unfoldable pub refusal : Memory → (ℕ → Bool) → ℕ → ℕ → ℕ → ℕ → ℕ → ℕ
refusal Ram member level o g a v = outside a level
refusal Rom member level o g a v = outside a level
refusal Set member level o g a v = missing member v
refusal Stack member level o g a v = emptied (eqb o 4) g level
refusal Queue member level o g a v = emptied (eqb o 6) g level

-- the depth after an operation that goes up or down
abbrev pub moved : Bool → ℕ → ℕ → ℕ
moved up g level = cond (eqb g 1) (cond up (level + 1) (level - 1)) level

-- the level after an operation
unfoldable pub leveled : Memory → ℕ → ℕ → ℕ → ℕ
leveled Ram level o g = level
leveled Rom level o g = level
leveled Set level o g = level
leveled Stack level o g = moved (eqb o 4) g level
leveled Queue level o g = moved (eqb o 6) g level

-- the fault of an operation at a level: 3, 5, 6, then 11, 12, 13
unfoldable pub fault_at : ℕ → Memory → (ℕ → Bool) → ℕ → Input → ℕ
fault_at q m member level i =
    cond (eqb (input_fault q m (ops_due m Operating) i) 0)
    (refusal m member level (op_code i.op) i.guard i.addr i.value)
    (input_fault q m (ops_due m Operating) i)

-- the first fault of the operations from a level on, the first of which is row k
unfoldable pub scanned : ℕ → Memory → (ℕ → Bool) → ℕ → ℕ → List Input → Placed
scanned q m member level k [] = placed 0 0
scanned q m member level k (i ∷ is) =
    let rest = scanned q m member (leveled m level (op_code i.op) i.guard) (suc k) is in
    cond (eqb (fault_at q m member level i) 0) rest (placed (fault_at q m member level i) k)

-- the fault of an init row, the same in every memory, and the first of them
unfoldable pub init_fault : ℕ → Input → ℕ
init_fault q i = input_fault q Ram (ops_due Ram Starting) i

unfoldable pub inits_scanned : ℕ → ℕ → List Input → Placed
inits_scanned q k [] = placed 0 0
inits_scanned q k (i ∷ is) =
    let rest = inits_scanned q (suc k) is in
    cond (eqb (init_fault q i) 0) rest (placed (init_fault q i) k)

-- whether a search tree gives a place of a value
abbrev pub in_tree : List ℕ → List ℕ → ℕ → Bool
in_tree values links v = ltb (found v values links) (length values)

-- the operations after n init rows, which have the places after theirs and begin at level n
unfoldable pub operations_scanned : ℕ → Memory → List ℕ → List ℕ → List ℕ → Placed
operations_scanned q m inits links ops =
    let n = length (inputs_in inits) in
    scanned q m (in_tree (values_in inits) links) n (n + 1) (inputs_in ops)

-- the first fault of all rows
unfoldable pub first_of : ℕ → Memory → List ℕ → List ℕ → List ℕ → Placed
first_of q m inits links ops =
    let f = inits_scanned q 1 (inputs_in inits) in
    cond (eqb f.number 0) (operations_scanned q m inits links ops) f

-- what the code answers, as a number and a place; 0 and 0 where no row is refused
abbrev pub placed_of : {A : Type 0} → Result A Refused → Placed
placed_of (Ok x) = placed 0 0
placed_of (Err r) = placed (fault_number r.fault) r.place
