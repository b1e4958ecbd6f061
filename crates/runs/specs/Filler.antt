-- The filler's library function: the paragraph on the library in section "The filler", and the last lines of section "The numbers", of document 01.
-- Rows are numbers in slices: 4 numbers an input row (op, guard, addr, value), 7 numbers an output row. The number of an op is its op_code.
-- Assumes nothing.
use Rattle.std.specs.Prelude.{ℕ, suc, ◌+◌, ◌*◌, cond, List, [], ◌∷◌, ◌++◌, map, eqb, leb, length, take, drop, replicate}
use Rattle.std.specs.Prelude.{Option, None, Some}
use Rattle.memory.specs.declared.Memory.{Memory}
use Rattle.memory.specs.declared.Op.{Op}
use Rattle.memory.specs.declared.Phase.TheVariants.{Starting, Operating}
use Rattle.memory.specs.declared.Row.{Row}
use Rattle.memory.specs.Bytes.{all_below}
use Rattle.memory.specs.Names.{op_code, op_coded, memory_coded}
use Rattle.memory.specs.Content.{Content, content_of, number_of}
use Rattle.memory.specs.Rows.{allowed, ops_due, op_in, formed}
use Rattle.runs.specs.Plain.{start, after}
use Rattle.runs.specs.Honest.{Input, bare, filled_rows, impossible, input_operation}

-- the input rows of a slice, and the slice of input rows
unfoldable pub inputs_in : List ℕ → List Input
inputs_in [] = []
inputs_in (o ∷ []) = []
inputs_in (o ∷ g ∷ []) = []
inputs_in (o ∷ g ∷ a ∷ []) = []
inputs_in (o ∷ g ∷ a ∷ v ∷ rest) = record { op = op_coded o; guard = g; addr = a; value = content_of v } ∷ inputs_in rest

unfoldable pub input_numbers : List Input → List ℕ
input_numbers [] = []
input_numbers (i ∷ is) = op_code i.op ∷ i.guard ∷ i.addr ∷ number_of i.value ∷ input_numbers is

-- the slice of output rows
unfoldable pub row_numbers : List Row → List ℕ
row_numbers [] = []
row_numbers (row ∷ rows) =
    op_code row.op ∷ row.guard ∷ row.addr ∷ number_of row.value ∷ number_of row.old ∷ row.time ∷ row.version ∷ row_numbers rows

-- "It wants room for 2n + 3T output rows and 2n + 3T scratch words."
unfoldable pub room : ℕ → ℕ → ℕ
room n t = 2 * n + 3 * t

-- the fault of an input row by its form: 3, 5, 6
unfoldable pub input_fault : ℕ → Memory → List Op → Input → ℕ
input_fault q m ops i =
    cond (all_below q (i.guard ∷ i.addr ∷ number_of i.value ∷ []))
    (cond (op_in i.op ops) (cond (formed m (bare i)) 0 6) 5)
    3

-- "then each row 3, 5, 6, 11, 12, 13": an operation over the plain memory's content
unfoldable pub operation_fault : ℕ → Memory → List Content → Input → ℕ
operation_fault q m content i =
    cond (eqb (input_fault q m (ops_due m Operating) i) 0) (impossible content (input_operation m i))
    (input_fault q m (ops_due m Operating) i)

-- A refusal by its number and place; 0 and 0 where there is none
pub record Placed : Type 0 where
  pub number : ℕ
  pub place : ℕ

unfoldable pub placed : ℕ → ℕ → Placed
placed f k = record { number = f; place = k }

-- the first fault of the operations, the first of which is row k
unfoldable pub operations_fault : ℕ → Memory → List Content → ℕ → List Input → Placed
operations_fault q m content k [] = placed 0 0
operations_fault q m content k (i ∷ is) =
    let rest = operations_fault q m (after content (input_operation m i)) (suc k) is in
    cond (eqb (operation_fault q m content i) 0) rest (placed (operation_fault q m content i) k)

-- the first fault of the init rows, the first of which is row k, and else of the operations: "place its number from 1"
unfoldable pub rows_fault : ℕ → Memory → List Content → ℕ → List Input → List Input → Placed
rows_fault q m values k [] ops = operations_fault q m (start m values) k ops
rows_fault q m values k (i ∷ is) ops =
    let rest = rows_fault q m values (suc k) is ops in
    cond (eqb (input_fault q m (ops_due m Starting) i) 0) rest (placed (input_fault q m (ops_due m Starting) i) k)

-- What the filler answers and leaves: the refusal's number and place, or 0, 0 and how many rows it wrote; and both lent slices
pub record Filling : Type 0 where
  pub answer : ℕ
  pub place : ℕ
  pub count : ℕ
  pub output : List ℕ
  pub scratch : List ℕ

-- "4, 7 (rows not size + count), 14, 15, place 0, buffers as found"
unfoldable pub turned_away : ℕ → List ℕ → List ℕ → Filling
turned_away f out scratch = record { answer = f; place = 0; count = 0; output = out; scratch = scratch }

-- "place its number from 1, whole output and scratch 0"
unfoldable pub row_refused : Placed → List ℕ → List ℕ → Filling
row_refused f out scratch = record {
  answer = f.number;
  place = f.place;
  count = 0;
  output = replicate (length out) 0;
  scratch = replicate (length scratch) 0;
}

-- "After a fill scratch is all 0, and output past the last row is as it was."
unfoldable pub filled_with : List Row → List ℕ → List ℕ → Filling
filled_with rows out scratch = record {
  answer = 0;
  place = 0;
  count = length rows;
  output = row_numbers rows ++ drop (length (row_numbers rows)) out;
  scratch = replicate (length scratch) 0;
}

-- the filler on rows that are as many as they should be, with room
unfoldable pub fill_rows : ℕ → Memory → ℕ → List Input → List Input → List ℕ → List ℕ → Filling
fill_rows q m t inits ops out scratch =
    let f = rows_fault q m (map (λ i. i.value) inits) 1 inits ops in
    cond (eqb f.number 0) (filled_with (filled_rows m t inits ops) out scratch) (row_refused f out scratch)

unfoldable pub fill_memory : ℕ → Option Memory → ℕ → ℕ → List ℕ → List ℕ → List ℕ → Filling
fill_memory q None n t rows out scratch = turned_away 4 out scratch
fill_memory q (Some m) n t rows out scratch =
    cond (allowed m n t)
    (cond (eqb (length rows) (4 * (n + t)))
    (cond (leb (7 * room n t) (length out))
    (cond (leb (room n t) (length scratch))
    (fill_rows q m t (take n (inputs_in rows)) (drop n (inputs_in rows)) out scratch)
    (turned_away 15 out scratch))
    (turned_away 14 out scratch))
    (turned_away 7 out scratch))
    (turned_away 4 out scratch)

-- the filler's library: the memory's number, size, count, the input rows, the lent output and the lent scratch
unfoldable pub fill_of : ℕ → ℕ → ℕ → ℕ → List ℕ → List ℕ → List ℕ → Filling
fill_of q k n t rows out scratch = fill_memory q (memory_coded k) n t rows out scratch
