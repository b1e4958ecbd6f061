-- The honest prover's rows. Where the filler refuses nothing they are complete and well-formed. Where a well-formed file has a right trace, the filler refuses
-- nothing and its rows have the same trace; so a refused run is not right.
-- Assumes nothing.
use Prim.Native.Nat.{ℕ, zero, suc, ◌+◌, ◌-◌, ◌≤◌, ◌<◌}
use native.Mathlib.Omega.{arith}
use mathlib.Core.Path.{◌≡◌, refl, sym, ◌∙◌, ap, ap₂, subst}
use mathlib.Core.Bool.{Bool, true, false, ◌&&◌, or-true}
use mathlib.Core.List.{List, [], ◌∷◌, ◌++◌, map, append-nil, map-append}
use lib.Dec.{leb}
use lib.ListN.{length, take, drop, length-map}
use lib.Seq.{take-add}
use borrow.Author.Tests.{lt-ltb, le-ltb, ne_eqb}
use Rattle.algebra.specs.Prime.{Prime}
use Rattle.memory.specs.declared.Memory.{Memory}
use Rattle.memory.specs.declared.Memory.TheVariants.{Ram, Rom, Set, Stack, Queue}
use Rattle.memory.specs.declared.Op.{Op}
use Rattle.memory.specs.declared.Op.TheVariants.{Access, Look, Member, Push, Pop, Enqueue, Dequeue}
use Rattle.memory.specs.declared.Phase.{Phase}
use Rattle.memory.specs.declared.Phase.TheVariants.{Starting, Operating, Ending, Ranging}
use Rattle.memory.specs.declared.Row.{Row}
use Rattle.memory.specs.Faults.{Parsed}
use Rattle.std.specs.Prelude.{Ok}
use Rattle.memory.specs.Content.{Content, no_content, number_of}
use Rattle.memory.specs.Bytes.{all_below}
use Rattle.memory.specs.Names.{op_code, is_op}
use Rattle.memory.specs.Rows.{allowed, raised, lowered, ends_due, ranges_due, ops_due, op_in, columns, used, used_or_zero, used_or_none, formed, depth_product, sunk}
use Rattle.memory.specs.Equations.{lists_of, file_lists}
use Rattle.runs.specs.Plain.{Trace, Operation, start, all_fit, right, operation_of, trace_of}
use Rattle.memory.specs.File.{rows_of, refusal, first_fault}
use Rattle.runs.specs.Advised.{Advised}
use Rattle.runs.specs.Honest.{Input, input_of, filled_row, bare, end_row, range_row, occurrences, range_rows_from, Cell, pop_time, ram_row, ram_cells, ram_ends, rom_ends_from, set_ends_from, stack_ends, operations_filled, filled_rows, possible}
use Rattle.memory.proofs.Content.{Single}
use Rattle.demands.specs.Statements.{HonestRows, RefusedNotRight}
use Rattle.runs.proofs.Inputs.{Inputs, input_at, input_cases}
use Rattle.runs.proofs.HonestLookups.{honest, rom_row, rom_ops, rom_final, rom_rows, rom_inputs, length_rom_ops, length_rom_final, rom_right_possible, rom_right_trace, set_row, set_ops, set_final, set_rows, set_inputs, length_set_ops, length_set_final, set_right_possible, set_right_trace}
use Rattle.runs.proofs.RamCells.{start_cells}
use Rattle.runs.proofs.RamComplete.{ram_ops, ram_inputs, ram_final_ages, ram_op_rows, ram_end_rows, ram_range_rows, ram_rows, ram_op_rows_length, ram_end_rows_length, ranges_length}
use Rattle.runs.proofs.RamRight.{ram_right_possible, ram_right_same}
use Rattle.runs.proofs.StackComplete.{stack_row, stack_cells, stack_inputs, stack_ops, stack_final_ages, stack_op_rows, stack_end_rows, stack_range_rows, stack_filled, stack_length, stack_not_below, stack_ends_due, stack_right_possible, stack_right_operations}
use Rattle.runs.proofs.QueueComplete.{queue_row, queue_content, queue_inputs, queue_ops, queue_final, queue_ends, queue_filled, queue_length, queue_nonzero, queue_ends_due, queue_right_possible, queue_right_operations}
use Rattle.memory.proofs.Phases.{DueRow, DueRows, Parts, only_op, formed_guard, due_ops, parts_inits, parts_ops, parts_lists, no_fault_phases, no_fault_below, parts_no_fault}
use Rattle.memory.proofs.ReadRows.{both_pass, RowBelow, RowsBelow, SingleRows, below_single, single_split, taken_below, dropped_below}
use Rattle.demands.proofs.Advice.{filled_advised, DueInput, DueInputs, due_single, values_of, Unrefused, unrefused_zero}
use Rattle.demands.proofs.FilledBelow.{filled_below}

-- The rows that the honest prover's rules give after the init rows: operations, end rows, range rows.
unfoldable pub honest_ops : Memory → List Content → List Input → List Row
honest_ops Ram values ops = ram_op_rows values ops
honest_ops Rom values ops = rom_ops values [] ops
honest_ops Set values ops = set_ops [] ops
honest_ops Stack values ops = stack_op_rows ops
honest_ops Queue values ops = queue_ops [] ops

unfoldable pub honest_ends : Memory → List Content → List Input → List Row
honest_ends Ram values ops = ram_end_rows values ops
honest_ends Rom values ops = rom_final values [] ops
honest_ends Set values ops = set_final values [] ops
honest_ends Stack values ops = stack_end_rows ops
honest_ends Queue values ops = queue_ends (queue_final [] ops)

unfoldable pub honest_ranges : Memory → ℕ → List Content → List Input → List Row
honest_ranges Ram t values ops = ram_range_rows t values ops
honest_ranges Rom t values ops = []
honest_ranges Set t values ops = []
honest_ranges Stack t values ops = stack_range_rows t ops
honest_ranges Queue t values ops = []

-- what the filler writes after the init rows: they, in this order
honest_split : (m : Memory) (t : ℕ) (values : List Content) (ops : List Input)
    → operations_filled m t values ops ≡ honest_ops m values ops ++ (honest_ends m values ops ++ honest_ranges m t values ops)
unfolding operations_filled honest_ops honest_ends honest_ranges
honest_split Ram t values ops = ram_rows t values ops
honest_split Rom t values ops = rom_rows values [] ops ∙ ap (λ (l : List Row). rom_ops values [] ops ++ l) (sym (append-nil (rom_final values [] ops)))
honest_split Set t values ops = set_rows values [] ops ∙ ap (λ (l : List Row). set_ops [] ops ++ l) (sym (append-nil (set_final values [] ops)))
honest_split Stack t values ops = stack_filled [] 1 [] t ops
honest_split Queue t values ops = queue_filled [] ops ∙ ap (λ (l : List Row). queue_ops [] ops ++ l) (sym (append-nil (queue_ends (queue_final [] ops))))

-- the operations are filled from the inputs,
honest_inputs : (m : Memory) (values : List Content) (ops : List Input) → map input_of (honest_ops m values ops) ≡ ops
unfolding honest_ops
honest_inputs Ram values ops = ram_inputs (start_cells values) 1 [] ops
honest_inputs Rom values ops = rom_inputs values [] ops
honest_inputs Set values ops = set_inputs [] ops
honest_inputs Stack values ops = stack_inputs [] 1 [] ops
honest_inputs Queue values ops = queue_inputs [] ops

-- and so are the init rows
bare_inputs : (inits : List Input) → map input_of (map bare inits) ≡ inits
unfolding bare filled_row input_of
bare_inputs [] = refl
bare_inputs (i ∷ is) = ap {B = List Input} (λ l. i ∷ l) (bare_inputs is)

-- how many they are
honest_ops_length : (m : Memory) (values : List Content) (ops : List Input) → length (honest_ops m values ops) ≡ length ops
unfolding honest_ops
honest_ops_length Ram values ops = ram_op_rows_length values ops
honest_ops_length Rom values ops = length_rom_ops values [] ops
honest_ops_length Set values ops = length_set_ops [] ops
honest_ops_length Stack values ops = stack_length [] 1 [] ops
honest_ops_length Queue values ops = queue_length [] ops

honest_ranges_length : (m : Memory) (t : ℕ) (values : List Content) (ops : List Input) → length (honest_ranges m t values ops) ≡ ranges_due m t
unfolding honest_ranges ranges_due
honest_ranges_length Ram t values ops = ranges_length 1 t (ram_final_ages (start_cells values) 1 [] ops)
honest_ranges_length Rom t values ops = refl
honest_ranges_length Set t values ops = refl
honest_ranges_length Stack t values ops = ranges_length 1 t (stack_final_ages [] 1 [] ops)
honest_ranges_length Queue t values ops = refl

-- due inputs have an op of the operations and a guard of 0 or 1
pub due_inputs : (q : ℕ) (m : Memory) (ops : List Input) → DueInputs q m Operating ops → Inputs m ops
due_inputs q m [] due = tt
due_inputs q m (i ∷ is) due = (due.0.1, (unfold bare filled_row in formed_guard m (bare i) due.0.2), due_inputs q m is due.1)

-- as many end rows as are due
honest_ends_length : (q : ℕ) (m : Memory) (values : List Content) (ops : List Input) → DueInputs q m Operating ops → possible m (start m values) ops ≡ true
    → length (honest_ends m values ops) ≡ ends_due m (length values) (raised (honest_ops m values ops)) (lowered (honest_ops m values ops))
unfolding honest_ops honest_ends ends_due start
honest_ends_length q Ram values ops due can = ram_end_rows_length values ops
honest_ends_length q Rom values ops due can = length_rom_final values [] ops
honest_ends_length q Set values ops due can = length_set_final values [] ops
honest_ends_length q Stack values ops due can = stack_ends_due ops (due_inputs q Stack ops due) can
honest_ends_length q Queue values ops due can = queue_ends_due ops (due_inputs q Queue ops due) can

-- they do not sink
honest_afloat : (q t : ℕ) (m : Memory) (values : List Content) (ops : List Input) → Prime q → t + 1 < q → length ops ≡ t → DueInputs q m Operating ops
    → possible m (start m values) ops ≡ true
    → sunk q m (honest_ops m values ops) ≡ false
unfolding honest_ops sunk start
honest_afloat q t Ram values ops prime room count due can = refl
honest_afloat q t Rom values ops prime room count due can = refl
honest_afloat q t Set values ops prime room count due can = refl
honest_afloat q t Stack values ops prime room count due can =
    le-ltb (raised (stack_op_rows ops)) (lowered (stack_op_rows ops)) (stack_not_below ops (due_inputs q Stack ops due) can)
honest_afloat q t Queue values ops prime room count due can =
    ne_eqb (depth_product q 0 0 (queue_ops [] ops)) 0 (queue_nonzero q ops prime (due_inputs q Queue ops due) (omega arith) can)

-- an input with the given op, and the other columns of an input
input_op : Op → Input → Input
input_op o i = record { op = o; guard = i.guard; addr = i.addr; value = i.value }

-- a filled row has its form where its input has, if the columns that the op leaves unused hold 0
-- and old is nothing but its number
abbrev Formed : Memory → Input → Content → ℕ → ℕ → Type 0
Formed m i o t v = Single o → formed m (bare i) ≡ true → formed m (filled_row i o t v) ≡ true

-- an access uses every column
access_formed : (i : Input) (o : Content) (t v : ℕ) → Formed Ram (input_op Access i) o t v
unfolding input_op formed used columns used_or_zero bare filled_row
access_formed i o t v s h = subst (λ (y : Content). formed Ram (filled_row (input_op Access i) y t v) ≡ true) s h

-- a look uses old and version
look_formed : (i : Input) (o : Content) (v : ℕ) → Formed Rom (input_op Look i) o 0 v
unfolding input_op formed used columns used_or_zero bare filled_row
look_formed i o v s h = subst (λ (y : Content). formed Rom (filled_row (input_op Look i) y 0 v) ≡ true) s h

-- a member uses version
member_formed : (i : Input) (v : ℕ) → Formed Set (input_op Member i) no_content 0 v
unfolding input_op formed used columns used_or_zero bare filled_row
member_formed i v s h = h

-- the op of a memory with one op for its operations
filled_due : (q : ℕ) (m : Memory) (x : Op) (i : Input) (o : Content) (t v : ℕ) → ops_due m Operating ≡ x ∷ [] → Formed m (input_op x i) o t v → DueInput q m Operating i
    → Single o → DueRow m Operating (filled_row i o t v)
unfolding input_op filled_row
filled_due q m x i o t v only form due s =
    (due.1, subst (λ (k : Op). Formed m (input_op k i) o t v) (sym (only_op i.op x (ap (op_in i.op) (sym only) ∙ due.1))) form s due.2)

-- the operation rows of each memory
ram_due : (q : ℕ) (cells : List Cell) (clock : ℕ) (ages : List ℕ) (ops : List Input) → DueInputs q Ram Operating ops
    → SingleRows (ram_ops cells clock ages ops) → DueRows Ram Operating (ram_ops cells clock ages ops)
unfolding ram_ops ram_row filled_row ops_due
ram_due q cells clock ages [] due s = tt
ram_due q cells clock ages (i ∷ is) due s =
    (filled_due q Ram Access i _ _ _ refl (access_formed i _ _ _) due.0 s.0.1, ram_due q (ram_cells cells clock i) _ _ is due.1 s.1)

rom_due : (q : ℕ) (values : List Content) (keys : List ℕ) (ops : List Input) → DueInputs q Rom Operating ops
    → SingleRows (rom_ops values keys ops) → DueRows Rom Operating (rom_ops values keys ops)
unfolding rom_ops rom_row honest filled_row ops_due
rom_due q values keys [] due s = tt
rom_due q values keys (i ∷ is) due s =
    (filled_due q Rom Look i _ _ _ refl (look_formed i _ _) due.0 s.0.1, rom_due q values (i.addr ∷ keys) is due.1 s.1)

set_due : (q : ℕ) (keys : List ℕ) (ops : List Input) → DueInputs q Set Operating ops → DueRows Set Operating (set_ops keys ops)
unfolding set_ops set_row honest ops_due
set_due q keys [] due = tt
set_due q keys (i ∷ is) due = (filled_due q Set Member i _ _ _ refl (member_formed i _) due.0 refl, set_due q (number_of i.value ∷ keys) is due.1)

-- a push of a stack has no advice, a pop uses old, time and version
stack_formed : (cells : List Cell) (clock : ℕ) (ages : List ℕ) (i : Input) → op_in i.op (Push ∷ Pop ∷ []) ≡ true → leb i.guard 1 ≡ true
    → Single (stack_row cells clock ages i).old → formed Stack (bare i) ≡ true → formed Stack (stack_row cells clock ages i) ≡ true
unfolding input_at formed used columns used_or_zero bare filled_row stack_row is_op op_code
stack_formed cells clock ages i =
    input_cases (λ (j : Input). Single (stack_row cells clock ages j).old → formed Stack (bare j) ≡ true → formed Stack (stack_row cells clock ages j) ≡ true) Push Pop i
    (λ s h. h) (λ s h. h) (λ s h. subst popped s h) (λ s h. h)
  where
    popped : Content → Type 0
    popped y =
        let j = input_at Pop 1 i in
        formed Stack (filled_row j y (pop_time cells clock j) (occurrences (clock - pop_time cells clock j) ages)) ≡ true

stack_due : (q : ℕ) (cells : List Cell) (clock : ℕ) (ages : List ℕ) (ops : List Input) → DueInputs q Stack Operating ops
    → SingleRows (stack_ops cells clock ages ops) → DueRows Stack Operating (stack_ops cells clock ages ops)
unfolding stack_ops ops_due
stack_due q cells clock ages [] due s = tt
stack_due q cells clock ages (i ∷ is) due s =
    ((unfold stack_row filled_row in due.0.1, stack_formed cells clock ages i due.0.1 (unfold bare filled_row in formed_guard Stack (bare i) due.0.2) s.0.1 due.0.2), stack_due q (stack_cells cells clock i) _ _ is due.1 s.1)

-- an enqueue has no advice, a dequeue uses old
queue_formed : (content : List Content) (i : Input) → op_in i.op (Enqueue ∷ Dequeue ∷ []) ≡ true → leb i.guard 1 ≡ true
    → Single (queue_row content i).old → formed Queue (bare i) ≡ true → formed Queue (queue_row content i) ≡ true
unfolding input_at formed used columns used_or_zero bare filled_row queue_row is_op op_code
queue_formed content i =
    input_cases (λ (j : Input). Single (queue_row content j).old → formed Queue (bare j) ≡ true → formed Queue (queue_row content j) ≡ true) Enqueue Dequeue i
    (λ s h. h) (λ s h. h) (λ s h. subst (λ (y : Content). formed Queue (filled_row (input_at Dequeue 1 i) y 0 0) ≡ true) s h) (λ s h. h)

queue_due : (q : ℕ) (content : List Content) (ops : List Input) → DueInputs q Queue Operating ops
    → SingleRows (queue_ops content ops) → DueRows Queue Operating (queue_ops content ops)
unfolding queue_ops ops_due
queue_due q content [] due s = tt
queue_due q content (i ∷ is) due s =
    ((unfold queue_row filled_row in due.0.1, queue_formed content i due.0.1 (unfold bare filled_row in formed_guard Queue (bare i) due.0.2) s.0.1 due.0.2), queue_due q (queue_content content i) is due.1 s.1)

honest_ops_due : (q : ℕ) (m : Memory) (values : List Content) (ops : List Input) → DueInputs q m Operating ops
    → SingleRows (honest_ops m values ops) → DueRows m Operating (honest_ops m values ops)
unfolding honest_ops
honest_ops_due q Ram values ops due s = ram_due q (start_cells values) 1 [] ops due s
honest_ops_due q Rom values ops due s = rom_due q values [] ops due s
honest_ops_due q Set values ops due s = set_due q [] ops due
honest_ops_due q Stack values ops due s = stack_due q [] 1 [] ops due s
honest_ops_due q Queue values ops due s = queue_due q [] ops due s

-- the end rows
due_append : (m : Memory) (p : Phase) (xs ys : List Row) → DueRows m p xs → DueRows m p ys → DueRows m p (xs ++ ys)
due_append m p [] ys dx dy = dy
due_append m p (x ∷ xs) ys dx dy = (dx.0, due_append m p xs ys dx.1 dy)

ram_ends_due : (cells : List Cell) → SingleRows (ram_ends cells) → DueRows Ram Ending (ram_ends cells)
unfolding ram_ends end_row ops_due op_in is_op op_code formed used columns used_or_zero
ram_ends_due [] s = tt
ram_ends_due (c ∷ cells) s =
    ((refl, subst (λ (y : Content). formed Ram (end_row no_content y c.time 0) ≡ true) s.0.1 refl), ram_ends_due cells s.1)

rom_ends_due : (k : ℕ) (values : List Content) (keys : List ℕ) → SingleRows (rom_ends_from k values keys) → DueRows Rom Ending (rom_ends_from k values keys)
unfolding rom_ends_from end_row ops_due op_in is_op op_code formed used columns used_or_zero
rom_ends_due k [] keys s = tt
rom_ends_due k (v ∷ values) keys s =
    ((refl, subst (λ (y : Content). formed Rom (end_row y no_content 0 (occurrences k keys)) ≡ true) s.0.0 refl), rom_ends_due (suc k) values keys s.1)

set_ends_due : (earlier values : List Content) (keys : List ℕ) → SingleRows (set_ends_from earlier values keys) → DueRows Set Ending (set_ends_from earlier values keys)
unfolding set_ends_from end_row ops_due op_in is_op op_code formed used columns used_or_zero
set_ends_due earlier [] keys s = tt
set_ends_due earlier (v ∷ values) keys s = (
  (refl, subst (λ (y : Content). formed Set (end_row y no_content 0 0) ≡ true) s.0.0 refl),
  set_ends_due (v ∷ earlier) values keys s.1,
)

cell_end_due : (c : Cell) → Single c.content → DueRow Stack Ending (end_row no_content c.content c.time 0)
unfolding end_row ops_due op_in is_op op_code formed used columns used_or_zero
cell_end_due c s = (refl, subst (λ (y : Content). formed Stack (end_row no_content y c.time 0) ≡ true) s refl)

stack_ends_rows_due : (cells : List Cell) → SingleRows (stack_ends cells) → DueRows Stack Ending (stack_ends cells)
unfolding stack_ends end_row
stack_ends_rows_due [] s = tt
stack_ends_rows_due (c ∷ cells) s =
    let last : List Row = end_row no_content c.content c.time 0 ∷ [] in
    let both = single_split (stack_ends cells) last s in
    due_append Stack Ending (stack_ends cells) last (stack_ends_rows_due cells both.0) (cell_end_due c both.1.0.1, tt)

queue_ends_rows_due : (content : List Content) → SingleRows (queue_ends content) → DueRows Queue Ending (queue_ends content)
unfolding queue_ends end_row ops_due op_in is_op op_code formed used columns used_or_zero
queue_ends_rows_due [] s = tt
queue_ends_rows_due (v ∷ content) s =
    ((refl, subst (λ (y : Content). formed Queue (end_row no_content y 0 0) ≡ true) s.0.1 refl), queue_ends_rows_due content s.1)

honest_ends_due : (m : Memory) (values : List Content) (ops : List Input) → SingleRows (honest_ends m values ops) → DueRows m Ending (honest_ends m values ops)
unfolding honest_ends rom_final set_final
honest_ends_due Ram values ops s = ram_ends_due _ s
honest_ends_due Rom values ops s = rom_ends_due 0 values _ s
honest_ends_due Set values ops s = set_ends_due [] values _ s
honest_ends_due Stack values ops s = stack_ends_rows_due _ s
honest_ends_due Queue values ops s = queue_ends_rows_due _ s

-- the range rows
range_rows_due : (m : Memory) (i t : ℕ) (ages : List ℕ) → DueRows m Ranging (range_rows_from i t ages)
unfolding range_rows_from range_row ops_due op_in is_op op_code formed used columns used_or_zero
range_rows_due m i zero ages = tt
range_rows_due m i (suc t) ages = ((refl, refl), range_rows_due m (suc i) t ages)

honest_ranges_due : (m : Memory) (t : ℕ) (values : List Content) (ops : List Input) → DueRows m Ranging (honest_ranges m t values ops)
unfolding honest_ranges
honest_ranges_due Ram t values ops = range_rows_due Ram 1 t _
honest_ranges_due Rom t values ops = tt
honest_ranges_due Set t values ops = tt
honest_ranges_due Stack t values ops = range_rows_due Stack 1 t _
honest_ranges_due Queue t values ops = tt

-- the init rows
honest_inits_due : (q : ℕ) (m : Memory) (inits : List Input) → DueInputs q m Starting inits → DueRows m Starting (map bare inits)
honest_inits_due q m [] due = tt
honest_inits_due q m (i ∷ is) due = ((unfold bare filled_row in due.0.1, due.0.2), honest_inits_due q m is due.1)

-- the contents of the operation rows and of the end rows are nothing but their numbers
filled_single : (q : ℕ) (m : Memory) (t : ℕ) (inits ops : List Input) → t + 1 < q → length ops ≡ t → Unrefused q m (values_of inits) inits ops
    → SingleRows (honest_ops m (values_of inits) ops) × SingleRows (honest_ends m (values_of inits) ops)
unfolding filled_rows
filled_single q m t inits ops room count u =
    let values = values_of inits in
    let all = below_single q (filled_rows m t inits ops) (filled_below q m t inits ops room count u) in
    let behind = (single_split (map bare inits) (operations_filled m t values ops) all).1 in
    let parts = single_split (honest_ops m values ops) (honest_ends m values ops ++ honest_ranges m t values ops) (subst SingleRows (honest_split m t values ops) behind) in
    (parts.0, (single_split (honest_ends m values ops) (honest_ranges m t values ops) parts.1).0)

-- Where the filler refuses nothing, its rows are the rows of the four phases.
pub filled_parts : (q : ℕ) (m : Memory) (n t : ℕ) (inits ops : List Input) → Prime q → t + 1 < q → length inits ≡ n → length ops ≡ t
    → Unrefused q m (values_of inits) inits ops
    → Parts q m n t (filled_rows m t inits ops)
filled_parts q m n t inits ops prime room size count u =
    let values = values_of inits in
    let single = filled_single q m t inits ops room count u in record {
      inits = map bare inits;
      ops = honest_ops m values ops;
      ends = honest_ends m values ops;
      ranges = honest_ranges m t values ops;
      whole = unfold filled_rows in ap (λ (l : List Row). map bare inits ++ l) (honest_split m t values ops);
      size = length-map inits bare ∙ size;
      count = honest_ops_length m values ops ∙ count;
      depth =
          honest_ends_length q m values ops u.operating u.can
          ∙ ap (λ (k : ℕ). ends_due m k (raised (honest_ops m values ops)) (lowered (honest_ops m values ops))) (length-map inits (λ i. i.value) ∙ size);
      ages = honest_ranges_length m t values ops;
      starting = honest_inits_due q m inits u.starting;
      operating = honest_ops_due q m values ops u.operating single.0;
      ending = honest_ends_due m values ops single.1;
      ranging = honest_ranges_due m t values ops;
      afloat = honest_afloat q t m values ops prime room count u.operating u.can;
    }

-- their lists
pub filled_lists : (q : ℕ) (m : Memory) (n t : ℕ) (inits ops : List Input) → Prime q → t + 1 < q → length inits ≡ n → length ops ≡ t
    → Unrefused q m (values_of inits) inits ops
    → file_lists q m n t (filled_rows m t inits ops) ≡ lists_of q m t (map bare inits) (honest_ops m (values_of inits) ops) (honest_ends m (values_of inits) ops) (honest_ranges m t (values_of inits) ops)
unfolding filled_parts
filled_lists q m n t inits ops prime room size count u =
    parts_lists q m n t (filled_rows m t inits ops) (filled_parts q m n t inits ops prime room size count u)

-- the init rows and operations among them are the filler's input
filled_inputs : (q : ℕ) (m : Memory) (n t : ℕ) (inits ops : List Input) → Prime q → t + 1 < q → length inits ≡ n → length ops ≡ t
    → Unrefused q m (values_of inits) inits ops
    → map input_of (take (n + t) (filled_rows m t inits ops)) ≡ inits ++ ops
unfolding filled_parts
filled_inputs q m n t inits ops prime room size count u =
    let rows = filled_rows m t inits ops in
    let p = filled_parts q m n t inits ops prime room size count u in
    ap (map input_of) (take-add n t rows)
    ∙ (map-append input_of (take n rows) (take t (drop n rows))
    ∙ ap₂ (λ (xs ys : List Input). xs ++ ys) (ap (map input_of) (parts_inits q m n t rows p) ∙ bare_inputs inits)
    (ap (map input_of) (parts_ops q m n t rows p) ∙ honest_inputs m (values_of inits) ops))

-- The rows of a well-formed file, as the filler's input: each is due.
zero_fits : (u : Bool) → used_or_zero u 0 ≡ true
unfolding used_or_zero
zero_fits u = or-true u

none_fits : (u : Bool) → used_or_none u no_content ≡ true
unfolding used_or_zero
none_fits true = refl
none_fits false = refl

-- a row has its form without its advice too
bare_formed : (m : Memory) (row : Row) → formed m row ≡ true → formed m (bare (input_of row)) ≡ true
unfolding formed bare filled_row input_of
bare_formed m row h =
    let u = used m row.op in
    let outer = both_pass (leb row.guard 1 && used_or_zero u.guard row.guard) _ h in
    let inner = both_pass (used_or_zero u.addr row.addr && used_or_none u.value row.value) _ outer.1 in
    ap₂ ◌&&◌ outer.0 (ap₂ ◌&&◌ inner.0 (ap₂ ◌&&◌ (none_fits u.old) (ap₂ ◌&&◌ (zero_fits u.time) (zero_fits u.version))))

-- the numbers of a row that the filler takes are elements
below_all : (q : ℕ) (row : Row) → RowBelow q row → all_below q (row.guard ∷ row.addr ∷ number_of row.value ∷ []) ≡ true
unfolding all_below
below_all q row b = rw (lt-ltb row.guard q b.0, lt-ltb row.addr q b.1, lt-ltb (number_of row.value) q b.2.0)

-- a row of a phase is a due input of it
due_input_of : (q : ℕ) (m : Memory) (p : Phase) (row : Row) → RowBelow q row → DueRow m p row → DueInput q m p (input_of row)
unfolding input_of
due_input_of q m p row b due = (below_all q row b, due.0, bare_formed m row due.1, b.2.1)

due_inputs_of : (q : ℕ) (m : Memory) (p : Phase) (rows : List Row) → RowsBelow q rows → DueRows m p rows → DueInputs q m p (map input_of rows)
due_inputs_of q m p [] b due = tt
due_inputs_of q m p (row ∷ rows) b due = (due_input_of q m p row b.0 due.0, due_inputs_of q m p rows b.1 due.1)

-- where the trace is right, the operations are possible, and the honest rows have the same operations
record Refilled (m : Memory) (values : List Content) (rows : List Row) : Type 0 where
  can : possible m (start m values) (map input_of rows) ≡ true
  kept : map (operation_of m) (honest_ops m values (map input_of rows)) ≡ map (operation_of m) rows

right_refilled : (m : Memory) (values : List Content) (rows : List Row) → DueRows m Operating rows → all_fit (start m values) (map (operation_of m) rows) ≡ true
    → Refilled m values rows
unfolding honest_ops start
right_refilled Ram values rows due fit = record { can = ram_right_possible values rows fit; kept = ram_right_same values rows fit }
right_refilled Rom values rows due fit = record { can = rom_right_possible values rows fit; kept = rom_right_trace values [] rows fit }
right_refilled Set values rows due fit = record { can = set_right_possible values rows fit; kept = set_right_trace [] rows }
right_refilled Stack values rows due fit =
    record { can = stack_right_possible rows (due_ops Stack rows due) fit; kept = stack_right_operations rows (due_ops Stack rows due) fit }
right_refilled Queue values rows due fit =
    record { can = queue_right_possible rows (due_ops Queue rows due) fit; kept = queue_right_operations rows (due_ops Queue rows due) fit }

-- the init values
values_of_inputs : (rows : List Row) → values_of (map input_of rows) ≡ map (λ row. row.value) rows
unfolding input_of
values_of_inputs [] = refl
values_of_inputs (row ∷ rows) = ap {B = List Content} (λ l. row.value ∷ l) (values_of_inputs rows)

values_of_bare : (inits : List Input) → map (λ row. row.value) (map bare inits) ≡ values_of inits
unfolding bare filled_row
values_of_bare [] = refl
values_of_bare (i ∷ is) = ap {B = List Content} (λ l. i.value ∷ l) (values_of_bare is)

-- the init rows and operations of a well-formed file with a right trace: the filler refuses none of them
right_unrefused : (q : ℕ) (m : Memory) (inits ops : List Row) → RowsBelow q inits → RowsBelow q ops → DueRows m Starting inits → DueRows m Operating ops
    → all_fit (start m (map (λ row. row.value) inits)) (map (operation_of m) ops) ≡ true
    → Unrefused q m (map (λ row. row.value) inits) (map input_of inits) (map input_of ops)
right_unrefused q m inits ops below below' starting operating fit = record {
  starting = due_inputs_of q m Starting inits below starting;
  operating = due_inputs_of q m Operating ops below' operating;
  can = (right_refilled m (map (λ row. row.value) inits) ops operating fit).can;
}

-- the same of a list of parsed rows
parsed_unrefused : (q : ℕ) (m : Memory) (n t : ℕ) (xs : List Parsed) → 2 ≤ q → (first_fault q m n t [] xs).number ≡ 0
    → right (trace_of m n t (rows_of xs)) ≡ true
    → Unrefused q m (map (λ row. row.value) (take n (rows_of xs))) (map input_of (take n (rows_of xs))) (map input_of (take t (drop n (rows_of xs))))
unfolding right trace_of
parsed_unrefused q m n t xs two e fit =
    let rows = rows_of xs in
    let p = no_fault_phases q m n t xs e in
    let below = no_fault_below q m n t [] xs e in
    right_unrefused q m (take n rows) (take t (drop n rows)) (taken_below q n rows below) (taken_below q t (drop n rows) (dropped_below q n rows below))
    (subst (DueRows m Starting) (sym (parts_inits q m n t rows p)) p.starting)
    (subst (DueRows m Operating) (sym (parts_ops q m n t rows p)) p.operating)
    fit

-- A run that the rules refuse is not right.
pub refused_not_right : RefusedNotRight
refused_not_right q m n t xs two e refused = go (right (trace_of m n t (rows_of xs))) refl
  where
    go : (b : Bool) → right (trace_of m n t (rows_of xs)) ≡ b → right (trace_of m n t (rows_of xs)) ≡ false
    go true fit = absurd (refused (unrefused_zero q m _ 1 _ _ (parsed_unrefused q m n t xs two e fit)))
    go false wrong = wrong

-- the trace of init rows and operations
rows_trace : Memory → ℕ → ℕ → List Row → List Row → Trace
rows_trace m n t inits ops = record {
  memory = m;
  size = n;
  count = t;
  inits = map (λ row. row.value) inits;
  operations = map (operation_of m) ops;
}

-- What the honest prover's rules give for init rows and operations that the filler does not refuse and that fit.
module _ (q : ℕ) (m : Memory) (n t : ℕ) (inits ops : List Row) (prime : Prime q) (room : t + 1 < q) (size : length inits ≡ n) (count : length ops ≡ t)
    (due : DueRows m Operating ops) (fit : all_fit (start m (map (λ row. row.value) inits)) (map (operation_of m) ops) ≡ true)
    (u : Unrefused q m (map (λ row. row.value) inits) (map input_of inits) (map input_of ops)) where
  unrefused : Unrefused q m (values_of (map input_of inits)) (map input_of inits) (map input_of ops)
  unrefused = subst (λ (vs : List Content). Unrefused q m vs (map input_of inits) (map input_of ops)) (sym (values_of_inputs inits)) u

  honest_parts : Parts q m n t (filled_rows m t (map input_of inits) (map input_of ops))
  honest_parts =
      filled_parts q m n t (map input_of inits) (map input_of ops) prime room (length-map inits input_of ∙ size) (length-map ops input_of ∙ count) unrefused

  -- they meet no fault
  honest_complete : first_fault q m n t [] (map Ok (filled_rows m t (map input_of inits) (map input_of ops))) ≡ refusal 0 0
  honest_complete =
      parts_no_fault q m n t (filled_rows m t (map input_of inits) (map input_of ops))
      (filled_below q m t (map input_of inits) (map input_of ops) room (length-map ops input_of ∙ count) unrefused) honest_parts

  -- their advice is the filler's
  honest_advised : allowed m n t ≡ true → Advised q m n t (filled_rows m t (map input_of inits) (map input_of ops))
  honest_advised fine =
      let long = length-map inits input_of ∙ size in
      let many = length-map ops input_of ∙ count in
      filled_advised q m n t (map input_of inits) (map input_of ops) fine long many
      (due_single q m Starting (map input_of inits) u.starting) (due_single q m Operating (map input_of ops) u.operating) (unrefused_zero q m _ 1 _ _ unrefused)
      (filled_inputs q m n t (map input_of inits) (map input_of ops) prime room long many unrefused)

  -- they have the same trace
  honest_trace : trace_of m n t (filled_rows m t (map input_of inits) (map input_of ops)) ≡ rows_trace m n t inits ops
  unfolding trace_of rows_trace honest_parts filled_parts
  honest_trace =
      let rows = filled_rows m t (map input_of inits) (map input_of ops) in
      let values : map (λ row. row.value) (take n rows) ≡ map (λ row. row.value) inits =
      ap (map (λ row. row.value)) (parts_inits q m n t rows honest_parts) ∙ (values_of_bare (map input_of inits) ∙ values_of_inputs inits)
      in
      let operations : map (operation_of m) (take t (drop n rows)) ≡ map (operation_of m) ops =
      ap (map (operation_of m)) (parts_ops q m n t rows honest_parts)
      ∙ (ap (λ (vs : List Content). map (operation_of m) (honest_ops m vs (map input_of ops))) (values_of_inputs inits) ∙ (right_refilled m (map (λ row. row.value) inits) ops due fit).kept)
      in
      ap₂ (λ (vs : List Content) (os : List Operation). record { memory = m; size = n; count = t; inits = vs; operations = os }) values operations

-- Where the trace is right, the rules refuse no row and give rows that are complete and well-formed, with the same trace.
pub honest_rows : HonestRows
unfolding right trace_of rows_trace
honest_rows q m n t xs prime room below e fit =
    let rows = rows_of xs in
    let p = no_fault_phases q m n t xs e in
    let inits = take n rows in
    let ops = take t (drop n rows) in
    let size = ap length (parts_inits q m n t rows p) ∙ p.size in
    let count = ap length (parts_ops q m n t rows p) ∙ p.count in
    let due = subst (DueRows m Operating) (sym (parts_ops q m n t rows p)) p.operating in
    let fits : all_fit (start m (map (λ row. row.value) inits)) (map (operation_of m) ops) ≡ true = fit in
    let u = parsed_unrefused q m n t xs (omega arith) e fit in
    record {
      fills = unrefused_zero q m _ 1 _ _ u;
      complete = honest_complete q m n t inits ops prime room size count due fits u;
      trace = honest_trace q m n t inits ops prime room size count due fits u;
      advised = honest_advised q m n t inits ops prime room size count due fits u;
    }
