-- The honest prover's rules: section "The filler" of document 01. From the init rows and operations to the rows of the file, or the refusal 11, 12 or 13.
-- Assumes nothing.
use Rattle.std.specs.Prelude.{ℕ, zero, suc, ◌+◌, ◌-◌, Bool, true, ◌&&◌, cond, List, [], ◌∷◌, ◌++◌, map, eqb, ltb, length, get_or, drop, set}
use Rattle.memory.specs.declared.Memory.{Memory}
use Rattle.memory.specs.declared.Memory.TheVariants.{Ram, Rom, Set, Stack, Queue}
use Rattle.memory.specs.declared.Op.{Op}
use Rattle.memory.specs.declared.Op.TheVariants.{Push, Enqueue, End, Range}
use Rattle.memory.specs.declared.Row.{Row}
use Rattle.memory.specs.Names.{is_op}
use Rattle.memory.specs.Content.{Content, no_content, number_of}
use Rattle.memory.specs.Rows.{init_rows, operation_rows}
use Rattle.runs.specs.Plain.{Operation, store, load, look, member, push, skipped_push, enqueue, skipped_enqueue, pop, skipped_pop, dequeue, skipped_dequeue, after, among, holds, operation_of}

-- A row of the filler's input: "`op,guard,addr,value`"
pub record Input : Type 0 where
  pub op : Op
  pub guard : ℕ
  pub addr : ℕ
  pub value : Content

-- what a row of the file takes from the filler's input
unfoldable pub input_of : Row → Input
input_of row = record { op = row.op; guard = row.guard; addr = row.addr; value = row.value }

-- the filler's input among the rows of a file
abbrev pub init_inputs : ℕ → List Row → List Input
init_inputs n rows = map input_of (init_rows n rows)

abbrev pub operation_inputs : ℕ → ℕ → List Row → List Input
operation_inputs n t rows = map input_of (operation_rows n t rows)

-- "Op, guard, addr and value are copied": the row of an input with its advice
unfoldable pub filled_row : Input → Content → ℕ → ℕ → Row
filled_row i o t v = record { op = i.op; guard = i.guard; addr = i.addr; value = i.value; old = o; time = t; version = v }

unfoldable pub bare : Input → Row
bare i = filled_row i no_content 0 0

-- an end row and a range row
unfoldable pub end_row : Content → Content → ℕ → ℕ → Row
end_row value o t v = record { op = End; guard = 0; addr = 0; value = value; old = o; time = t; version = v }

unfoldable pub range_row : ℕ → Row
range_row v = record { op = Range; guard = 0; addr = 0; value = no_content; old = no_content; time = 0; version = v }

-- how often x occurs: "version is the number of earlier lookups of the same key", the keys of the earlier lookups in a list
unfoldable pub occurrences : ℕ → List ℕ → ℕ
occurrences x [] = 0
occurrences x (y ∷ ys) = cond (eqb x y) 1 0 + occurrences x ys

-- the range rows of t numbers from i on, after all lookups
unfoldable pub range_rows_from : ℕ → ℕ → List ℕ → List Row
range_rows_from i zero ages = []
range_rows_from i (suc t) ages = range_row (occurrences i ages) ∷ range_rows_from (suc i) t ages

-- A cell: its content, and "the clock of its last write (a load writes too), 0 from init"
pub record Cell : Type 0 where
  pub content : Content
  pub time : ℕ

unfoldable pub cell : Content → ℕ → Cell
cell v t = record { content = v; time = t }

unfoldable pub cell_at : List Cell → ℕ → Cell
cell_at cells i = get_or cells i (cell no_content 0)

-- ram. "old is the content of the cell read, time the clock of its last write": an access at a clock, over the ages looked up before it
unfoldable pub ram_age : List Cell → ℕ → Input → ℕ
ram_age cells clock i = clock - (cell_at cells i.addr).time

unfoldable pub ram_row : List Cell → ℕ → List ℕ → Input → Row
ram_row cells clock ages i =
    filled_row i (cell_at cells i.addr).content (cell_at cells i.addr).time (occurrences (ram_age cells clock i) ages)

unfoldable pub ram_cells : List Cell → ℕ → Input → List Cell
ram_cells cells clock i = set cells i.addr (cell (cond (eqb i.guard 1) i.value (cell_at cells i.addr).content) clock)

unfoldable pub ram_ends : List Cell → List Row
ram_ends cells = map (λ c. end_row no_content c.content c.time 0) cells

-- the operations from a clock on, then the end rows and the range rows
unfoldable pub ram_from : List Cell → ℕ → List ℕ → ℕ → List Input → List Row
ram_from cells clock ages t [] = ram_ends cells ++ range_rows_from 1 t ages
ram_from cells clock ages t (i ∷ is) =
    ram_row cells clock ages i ∷ ram_from (ram_cells cells clock i) (suc clock) (ram_age cells clock i ∷ ages) t is

-- rom. The keys are the addresses; "end values restate init"
unfoldable pub rom_ends_from : ℕ → List Content → List ℕ → List Row
rom_ends_from k [] keys = []
rom_ends_from k (v ∷ vs) keys = end_row v no_content 0 (occurrences k keys) ∷ rom_ends_from (suc k) vs keys

unfoldable pub rom_from : List Content → List ℕ → List Input → List Row
rom_from cells keys [] = rom_ends_from 0 cells keys
rom_from cells keys (i ∷ is) =
    filled_row i (get_or cells i.addr no_content) 0 (occurrences i.addr keys) ∷ rom_from cells (i.addr ∷ keys) is

-- set. The keys are the values; "equal set elements give all lookups to the first": `earlier` are the elements before
unfoldable pub set_ends_from : List Content → List Content → List ℕ → List Row
set_ends_from earlier [] keys = []
set_ends_from earlier (v ∷ vs) keys =
    end_row v no_content 0 (cond (among (number_of v) earlier) 0 (occurrences (number_of v) keys)) ∷ set_ends_from (v ∷ earlier) vs keys

unfoldable pub set_from : List Content → List ℕ → List Input → List Row
set_from elements keys [] = set_ends_from [] elements keys
set_from elements keys (i ∷ is) = filled_row i no_content 0 (occurrences (number_of i.value) keys) ∷ set_from elements (number_of i.value ∷ keys) is

-- stack. The cells from the top down; the clock is 1 and rises with each executed push. "A skipped pop gets old 0 and time clock − 1"
unfoldable pub top_cell : List Cell → Cell
top_cell cells = cell_at cells 0

unfoldable pub stack_ends : List Cell → List Row
stack_ends [] = []
stack_ends (c ∷ cells) = stack_ends cells ++ end_row no_content c.content c.time 0 ∷ []

unfoldable pub pop_time : List Cell → ℕ → Input → ℕ
pop_time cells clock i = cond (eqb i.guard 1) (top_cell cells).time (clock - 1)

unfoldable pub pop_row : List Cell → ℕ → List ℕ → Input → Row
pop_row cells clock ages i =
    filled_row i (cond (eqb i.guard 1) (top_cell cells).content no_content) (pop_time cells clock i) (occurrences (clock - pop_time cells clock i) ages)

unfoldable pub stack_from : List Cell → ℕ → List ℕ → ℕ → List Input → List Row
stack_from cells clock ages t [] = stack_ends cells ++ range_rows_from 1 t ages
stack_from cells clock ages t (i ∷ is) =
    cond (is_op i.op Push)
    (bare i
    ∷ stack_from (cond (eqb i.guard 1) (cell i.value clock ∷ cells) cells) (clock + i.guard) ages t is)
    (pop_row cells clock ages i
    ∷ stack_from (cond (eqb i.guard 1) (drop 1 cells) cells) clock ((clock - pop_time cells clock i) ∷ ages) t is)

-- queue. The elements from the front; "a skipped dequeue old 0"
unfoldable pub queue_from : List Content → List Input → List Row
queue_from content [] = map (λ v. end_row no_content v 0 0) content
queue_from content (i ∷ is) =
    cond (is_op i.op Enqueue)
    (bare i ∷ queue_from (cond (eqb i.guard 1) (content ++ i.value ∷ []) content) is)
    (filled_row i (cond (eqb i.guard 1) (get_or content 0 no_content) no_content) 0 0
    ∷ queue_from (cond (eqb i.guard 1) (drop 1 content) content) is)

-- the rows after the init rows, by the init values and the operations
unfoldable pub operations_filled : Memory → ℕ → List Content → List Input → List Row
operations_filled Ram t inits ops = ram_from (map (λ v. cell v 0) inits) 1 [] t ops
operations_filled Rom t inits ops = rom_from inits [] ops
operations_filled Set t inits ops = set_from inits [] ops
operations_filled Stack t inits ops = stack_from [] 1 [] t ops
operations_filled Queue t inits ops = queue_from [] ops

-- all rows that the filler writes for init rows and operations
unfoldable pub filled_rows : Memory → ℕ → List Input → List Input → List Row
filled_rows m t inits ops = map bare inits ++ operations_filled m t (map (λ i. i.value) inits) ops

-- the same for those among the rows of a file
abbrev pub refilled_rows : Memory → ℕ → ℕ → List Row → List Row
refilled_rows m n t rows = filled_rows m t (init_inputs n rows) (operation_inputs n t rows)

-- what makes an operation impossible, or 0. 11: "addr ≥ size"; 12: "executed pop or dequeue on empty"; 13: "value not in the set"
unfoldable pub impossible : List Content → Operation → ℕ
impossible content (store addr value) = cond (ltb addr (length content)) 0 11
impossible content (load addr value old) = cond (ltb addr (length content)) 0 11
impossible content (look addr old) = cond (ltb addr (length content)) 0 11
impossible content (member value) = cond (among value content) 0 13
impossible content (push value) = 0
impossible content (skipped_push value) = 0
impossible content (enqueue value) = 0
impossible content (skipped_enqueue value) = 0
impossible content (pop old) = cond (holds content) 0 12
impossible content skipped_pop = 0
impossible content (dequeue old) = cond (holds content) 0 12
impossible content skipped_dequeue = 0

-- the operation of an input; its old is not known yet, and no refusal depends on it
unfoldable pub input_operation : Memory → Input → Operation
input_operation m i = operation_of m (bare i)

-- every operation of a run is possible
unfoldable pub possible : Memory → List Content → List Input → Bool
possible m content [] = true
possible m content (i ∷ is) =
    eqb (impossible content (input_operation m i)) 0 && possible m (after content (input_operation m i)) is
