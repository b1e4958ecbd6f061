-- Section "Gates of an accepted file" of document 01: by counting over the rows, and by the formulas of its table.
-- Assumes nothing.
use Rattle.std.specs.Prelude.{ℕ, ◌+◌, ◌*◌, ◌&&◌, cond, List, [], ◌∷◌, eqb}
use Rattle.algebra.specs.Sum.{bit}
use Rattle.memory.specs.declared.Memory.{Memory}
use Rattle.memory.specs.declared.Memory.TheVariants.{Ram, Rom, Set, Stack, Queue}
use Rattle.memory.specs.declared.Op.{Op}
use Rattle.memory.specs.declared.Op.TheVariants.{Init, Access, Look, Member, Push, Pop, Enqueue, Dequeue, End, Range, Other}
use Rattle.memory.specs.declared.Row.{Row}
use Rattle.memory.specs.Names.{is_op}
use Rattle.memory.specs.Rows.{used}

-- the inputs of a row: how many of the columns old, time and version it uses. "Restated values are not inputs."
unfoldable pub row_inputs : Memory → Op → ℕ
row_inputs m op =
    let u = used m op in
    bit u.old + bit u.time + bit u.version

-- what a row's multiplications are for: "Every factor costs one multiplication, except the range's public setup, which is free. So does each
-- choice by a guard, each hash step and each depth step."
pub record Costs : Type 0 where
  pub factors : ℕ
  pub choices : ℕ
  pub hashes : ℕ
  pub depths : ℕ

unfoldable pub costs : ℕ → ℕ → ℕ → ℕ → Costs
costs f c h d = record { factors = f; choices = c; hashes = h; depths = d }

-- a look or member: its read and its write. An access: the same of the memory and of the range, and the choice of new. A push: its write, or 1, chosen
-- by the guard. A pop: its read, chosen by the guard, and the two factors of its lookup. An enqueue: a hash step, chosen by the guard; a dequeue too, and a depth step.
unfoldable pub row_costs : Memory → Op → Costs
row_costs m Init = costs 1 0 0 0
row_costs m Access = costs 4 1 0 0
row_costs m Look = costs 2 0 0 0
row_costs m Member = costs 2 0 0 0
row_costs m Push = costs 1 1 0 0
row_costs m Pop = costs 3 1 0 0
row_costs m Enqueue = costs 0 1 1 0
row_costs m Dequeue = costs 0 1 1 1
row_costs Ram End = costs 1 0 0 0
row_costs Rom End = costs 1 0 0 0
row_costs Set End = costs 1 0 0 0
row_costs Stack End = costs 1 0 0 0
row_costs Queue End = costs 0 0 1 0
row_costs m Range = costs 1 0 0 0
row_costs m Other = costs 0 0 0 0

unfoldable pub row_mults : Memory → Op → ℕ
row_mults m o = let k = row_costs m o in k.factors + k.choices + k.hashes + k.depths

-- the inputs and the multiplications of a list of rows
unfoldable pub inputs_of : Memory → List Row → ℕ
inputs_of m [] = 0
inputs_of m (row ∷ rows) = row_inputs m row.op + inputs_of m rows

unfoldable pub mults_of : Memory → List Row → ℕ
mults_of m [] = 0
mults_of m (row ∷ rows) = row_mults m row.op + mults_of m rows

-- the factors of a list of rows, their choices by a guard, their hash steps and their depth steps
unfoldable pub factors_of : Memory → List Row → ℕ
factors_of m [] = 0
factors_of m (row ∷ rows) = (row_costs m row.op).factors + factors_of m rows

unfoldable pub choices_of : Memory → List Row → ℕ
choices_of m [] = 0
choices_of m (row ∷ rows) = (row_costs m row.op).choices + choices_of m rows

unfoldable pub hashes_of : Memory → List Row → ℕ
hashes_of m [] = 0
hashes_of m (row ∷ rows) = (row_costs m row.op).hashes + hashes_of m rows

unfoldable pub depths_of : Memory → List Row → ℕ
depths_of m [] = 0
depths_of m (row ∷ rows) = (row_costs m row.op).depths + depths_of m rows

-- how many rows use the guard column
unfoldable pub guarded : Memory → List Row → ℕ
guarded m [] = 0
guarded m (row ∷ rows) = cond (used m row.op).guard 1 0 + guarded m rows

-- how many rows of an op are skipped: their guard is 0
unfoldable pub skipped_with : Op → List Row → ℕ
skipped_with o [] = 0
skipped_with o (row ∷ rows) = cond (is_op row.op o && eqb row.guard 0) 1 0 + skipped_with o rows

-- how many rows have an op: P and Q "are the counts of push and pop, or enqueue and dequeue rows, skipped ones too"
unfoldable pub rows_with : Op → List Row → ℕ
rows_with o [] = 0
rows_with o (row ∷ rows) = cond (is_op row.op o) 1 0 + rows_with o rows

unfoldable pub puts : List Row → ℕ
puts rows = rows_with Push rows + rows_with Enqueue rows

unfoldable pub takes : List Row → ℕ
takes rows = rows_with Pop rows + rows_with Dequeue rows

-- the table: inputs, by memory, n, T, P (`puts`), Q (`takes`), D (`depth`)
unfoldable pub inputs_formula : Memory → ℕ → ℕ → ℕ → ℕ → ℕ → ℕ
inputs_formula Ram n t puts takes depth = 4 * t + 2 * n
inputs_formula Rom n t puts takes depth = 2 * t + n
inputs_formula Set n t puts takes depth = t + n
inputs_formula Stack n t puts takes depth = 3 * takes + t + 2 * depth
inputs_formula Queue n t puts takes depth = takes + depth

-- the table: multiplications
unfoldable pub mults_formula : Memory → ℕ → ℕ → ℕ → ℕ → ℕ → ℕ
mults_formula Ram n t puts takes depth = 6 * t + 2 * n
mults_formula Rom n t puts takes depth = 2 * t + 2 * n
mults_formula Set n t puts takes depth = 2 * t + 2 * n
mults_formula Stack n t puts takes depth = 2 * puts + 4 * takes + t + depth
mults_formula Queue n t puts takes depth = 2 * puts + 3 * takes + depth
