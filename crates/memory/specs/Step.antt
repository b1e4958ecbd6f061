-- The steps of a checker: the fresh state of a value line, one row, the end of file, and what is printed of a state. The code is equated with these
-- definitions; they are total, for every state and every row. A counter that has reached the largest number of its type stays there.
-- Assumes nothing.
use Rattle.std.specs.Prelude.{ℕ, ◌+◌, ◌-◌, min, Bool, true, false, ◌&&◌, not, cond, List, [], ◌∷◌, ◌++◌, map, eqb, ltb}
use Rattle.algebra.specs.Modulo.{times}
use Rattle.algebra.specs.Hash.{hash_from}
use Rattle.memory.specs.declared.Memory.{Memory}
use Rattle.memory.specs.declared.Memory.TheVariants.{Ram, Rom, Set, Stack, Queue}
use Rattle.memory.specs.declared.Op.{Op}
use Rattle.memory.specs.declared.Op.TheVariants.{Init, Access, Look, Member, Push, Pop, Enqueue, Dequeue, End, Range, Other}
use Rattle.memory.specs.declared.Phase.{Phase}
use Rattle.memory.specs.declared.Row.{Row}
use Rattle.memory.specs.Faults.{Parsed}
use Rattle.std.specs.Prelude.{Ok, Err}
use Rattle.memory.specs.declared.Challenge.{Challenge}
use Rattle.memory.specs.declared.Context.{Context}
use Rattle.memory.specs.declared.Products.{Products}
use Rattle.memory.specs.declared.State.{State}
use Rattle.memory.specs.declared.Report.{Report}
use Rattle.memory.specs.declared.Lent.{Lent}
use Rattle.field.specs.Moduli.{modulus_of}
use Rattle.memory.specs.Bytes.{Line}
use Rattle.memory.specs.Names.{is_op}
use Rattle.memory.specs.Content.{Content}
use Rattle.memory.specs.Rows.{raise_by, lower_by, ends_due, ops_due, op_in, formed, depth_factor, row_below, parse_row, sunk_by, due_by, phase_by, fault_by, unread_fault}
use Rattle.memory.specs.Equations.{Triple, Lookup, factor, init_write, look_read, look_write, rom_end, set_init, member_read, member_write, range_set, range_read, range_write, range_end, access_read, access_write, access_lookup, cell_end, push_write, pop_read, pop_lookup, enqueue_elements, dequeue_elements, end_element}
use Rattle.memory.specs.Gates.{row_inputs, row_mults}
use Rattle.memory.specs.File.{head_lines, first_line, refused, values_fault, Opening, opens, shut}

-- the largest number of a counter
unfoldable pub top : ℕ
top = 4294967295

unfoldable pub raise : ℕ → ℕ → ℕ
raise x k = min (x + k) top

-- a state takes rows until a refusal or the end of file
unfoldable pub takes_rows : Context → Bool
takes_rows c = not c.ended && eqb c.answer 0

-- the rows due in all, and the phase of the next row
unfoldable pub due : Context → ℕ
due c = due_by c.memory c.size c.count c.pushed c.popped

unfoldable pub phase : Context → Phase
phase c = phase_by c.memory c.size c.count c.pushed c.popped c.passed

-- a refusal on a line
unfoldable pub refuse_at : Context → ℕ → ℕ → Context
refuse_at c f l = record {
  memory = c.memory;
  size = c.size;
  count = c.count;
  passed = c.passed;
  pushed = c.pushed;
  popped = c.popped;
  depths = c.depths;
  inputs = c.inputs;
  mults = c.mults;
  answer = f;
  line = l;
  ended = c.ended;
}

-- a refusal on the line of the next row, and of the last one that has passed
unfoldable pub refuse_next : Context → ℕ → Context
refuse_next c f = refuse_at c f (raise c.passed first_line)

unfoldable pub refuse_last : Context → ℕ → Context
refuse_last c f = refuse_at c f (raise c.passed head_lines)

-- a row has passed
unfoldable pub pass : ℕ → Context → Row → Context
pass q c row = record {
  memory = c.memory;
  size = c.size;
  count = c.count;
  passed = raise c.passed 1;
  pushed = raise c.pushed (raise_by row.op row.guard);
  popped = raise c.popped (lower_by row.op row.guard);
  depths = times q c.depths (depth_factor q c.pushed c.popped row);
  inputs = raise c.inputs (row_inputs c.memory row.op);
  mults = raise c.mults (row_mults c.memory row.op);
  answer = c.answer;
  line = c.line;
  ended = c.ended;
}

-- 8, of the context after a row: "the queue's depth product is 0, or the stack's depth is below 0"
unfoldable pub sinks : Context → Bool
sinks c = sunk_by c.memory c.pushed c.popped c.depths

-- the fault of the next row, or 0
unfoldable pub step_fault : ℕ → Context → Row → ℕ
step_fault q c row =
    fault_by c.size c.count c.passed (op_in row.op (ops_due c.memory (phase c))) (formed c.memory row) (sinks (pass q c row))

-- the clock of a ram's next access
unfoldable pub ram_clock : Context → ℕ
ram_clock c = (c.passed + 1) - c.size

-- the place of the next end row and of the next range row among their like, from 0
unfoldable pub end_place : Context → ℕ
end_place c = c.passed - (c.size + c.count)

unfoldable pub range_place : Context → ℕ
range_place c = c.passed - (c.size + c.count + ends_due c.memory c.size c.pushed c.popped)

-- the lookups in the range that a row makes
unfoldable pub lookups_by : ℕ → Context → Row → List Lookup
lookups_by q c row =
    cond (is_op row.op Access) (access_lookup q (ram_clock c) row ∷ [])
    (pop_lookup q c.pushed row)

-- the records that a row writes to the memory's shuffle, by memory and op
unfoldable pub written_by : ℕ → Context → Row → Memory → Op → List Triple
written_by q c row Set Init = set_init row ∷ []
written_by q c row Ram Init = init_write c.passed row ∷ []
written_by q c row Rom Init = init_write c.passed row ∷ []
written_by q c row Stack Init = []
written_by q c row Queue Init = []
written_by q c row m Access = access_write (ram_clock c) row ∷ []
written_by q c row m Look = look_write q row ∷ []
written_by q c row m Member = member_write q row ∷ []
written_by q c row m Push = push_write q c.pushed c.popped row
written_by q c row m Pop = []
written_by q c row m Enqueue = []
written_by q c row m Dequeue = []
written_by q c row m End = []
written_by q c row m Range = []
written_by q c row m Other = []

-- the records that a row reads from the memory's shuffle
unfoldable pub read_by : ℕ → Context → Row → Memory → Op → List Triple
read_by q c row m Init = []
read_by q c row m Access = access_read row ∷ []
read_by q c row m Look = look_read row ∷ []
read_by q c row m Member = member_read row ∷ []
read_by q c row m Push = []
read_by q c row m Pop = pop_read q c.pushed c.popped row
read_by q c row m Enqueue = []
read_by q c row m Dequeue = []
read_by q c row Ram End = cell_end (end_place c) row ∷ []
read_by q c row Rom End = rom_end (end_place c) row ∷ []
read_by q c row Set End = member_read row ∷ []
read_by q c row Stack End = cell_end (end_place c + 1) row ∷ []
read_by q c row Queue End = []
read_by q c row m Range = []
read_by q c row m Other = []

-- the pairs that a row writes to the range's shuffle; the setup of the number i comes with range row i
unfoldable pub supplied_by : ℕ → Context → Row → List Triple
supplied_by q c row = map (range_write q) (lookups_by q c row) ++ cond (is_op row.op Range) (range_set (range_place c + 1) ∷ []) []

-- the pairs that a row reads from the range's shuffle
unfoldable pub looked_by : ℕ → Context → Row → List Triple
looked_by q c row =
    map range_read (lookups_by q c row) ++ cond (is_op row.op Range) (range_end (range_place c + 1) row ∷ []) []

-- the elements that a row adds to the queue's two hashes
unfoldable pub enqueued_by : Row → List Content
enqueued_by row = enqueue_elements row

unfoldable pub dequeued_by : Memory → Row → List Content
dequeued_by Ram row = []
dequeued_by Rom row = []
dequeued_by Set row = []
dequeued_by Stack row = []
dequeued_by Queue row = cond (is_op row.op End) (end_element row ∷ []) (dequeue_elements row)

-- a running product times the factors of records
unfoldable pub multiplied : ℕ → Challenge → ℕ → List Triple → ℕ
multiplied q ch x [] = x
multiplied q ch x (t ∷ ts) = multiplied q ch (times q x (factor q ch t)) ts

-- the products and hashes after a row
unfoldable pub multiply : ℕ → Challenge → Context → Row → Products → Products
multiply q ch c row ps = record {
  written = multiplied q ch ps.written (written_by q c row c.memory row.op);
  read = multiplied q ch ps.read (read_by q c row c.memory row.op);
  supplied = multiplied q ch ps.supplied (supplied_by q c row);
  looked = multiplied q ch ps.looked (looked_by q c row);
  enqueued = hash_from q ch.r ps.enqueued (enqueued_by row);
  dequeued = hash_from q ch.r ps.dequeued (dequeued_by c.memory row);
}

unfoldable pub with_context : State → Context → State
with_context s c = record { context = c; challenge = s.challenge; products = s.products }

-- a row that has passed
unfoldable pub passed_row : ℕ → State → Row → State
passed_row q s row = record {
  context = pass q s.context row;
  challenge = s.challenge;
  products = multiply q s.challenge s.context row s.products;
}

-- a row that is due: it passes, or its fault is the refusal
unfoldable pub take_row : ℕ → State → Row → State
take_row q s row =
    cond (eqb (step_fault q s.context row) 0) (passed_row q s row)
    (with_context s (refuse_next s.context (step_fault q s.context row)))

-- what a line reads as: a row with a number of q or more is 3
unfoldable pub take_parsed : ℕ → State → Parsed → State
take_parsed q s (Ok row) = cond (row_below q row) (take_row q s row) (with_context s (refuse_next s.context 3))
take_parsed q s (Err f) = with_context s (refuse_next s.context (unread_fault f))

-- one row. "After a refusal or the end of file a state is fixed"; a surplus row is 7
unfoldable pub step_of : ℕ → State → Parsed → State
step_of q s parsed =
    cond (takes_rows s.context)
    (cond (ltb s.context.passed (due s.context)) (take_parsed q s parsed) (with_context s (refuse_next s.context 7)))
    s

-- one row as its line, with or without its line feed
unfoldable pub row_of : ℕ → State → Line → State
row_of q s line = step_of q s (parse_row q line)

-- a context at its accepted end
unfoldable pub accepting : Context → Context
accepting c = record {
  memory = c.memory;
  size = c.size;
  count = c.count;
  passed = c.passed;
  pushed = c.pushed;
  popped = c.popped;
  depths = c.depths;
  inputs = c.inputs;
  mults = c.mults;
  answer = 0;
  line = 0;
  ended = true;
}

-- the end of file, where rows were still taken: 7 if rows are missing, then 9, then 10
abbrev pub closed : Context → Products → Context
closed c ps =
    cond (ltb c.passed (due c)) (refuse_next c 7)
    (cond (eqb ps.supplied ps.looked)
    (cond (eqb ps.written ps.read && eqb ps.enqueued ps.dequeued) (accepting c) (refuse_last c 10))
    (refuse_last c 9))

unfoldable pub end_of : State → State
end_of s = cond (takes_rows s.context) (with_context s (closed s.context s.products)) s

-- what is printed of a state. A state that still takes rows is an incomplete file: 7 on the next line
unfoldable pub report_of : State → Report
report_of s =
    let c = s.context in
    cond (eqb c.answer 0)
    (cond c.ended (record { answer = 0; line = 0; inputs = c.inputs; mults = c.mults }) (refused 7 (raise c.passed first_line)))
    (refused c.answer c.line)

-- what a call on a lent state answers, of the state that it leaves: 0 and 0 where rows are still
-- taken, and else what is printed
unfoldable pub answer_of : State → Report
answer_of s = cond (takes_rows s.context) (refused 0 0) (report_of s)

-- the state of a memory, size, count and challenge before any row: products start at 1, hashes at 0
unfoldable pub fresh_context : Memory → ℕ → ℕ → ℕ → Context
fresh_context m n t f = record {
  memory = m;
  size = n;
  count = t;
  passed = 0;
  pushed = 0;
  popped = 0;
  depths = 1;
  inputs = 0;
  mults = 0;
  answer = f;
  line = cond (eqb f 0) 0 2;
  ended = false;
}

unfoldable pub fresh_products : Products
fresh_products = record { written = 1; read = 1; supplied = 1; looked = 1; enqueued = 0; dequeued = 0 }

-- "The value line makes a fresh state, whichever challenge stands in it.": from its values; where they have a fault, a state that has refused
unfoldable pub fresh_of : ℕ → Memory → ℕ → ℕ → Challenge → State
fresh_of q m n t ch =
    record { context = fresh_context m n t (values_fault q m n t ch); challenge = ch; products = fresh_products }

-- a state that has refused a line before the rows
unfoldable pub refused_state : ℕ → ℕ → State
refused_state f l =
    let none : Challenge = record { r = 0; a = 0; b = 0; c = 0 } in
    record { context = refuse_at (fresh_context Ram 0 0 f) f l; challenge = none; products = fresh_products }

-- the fresh state of a value line
unfoldable pub opened_of : ℕ → Opening → State
opened_of q (opens m n t ch) = fresh_of q m n t ch
opened_of q (shut f) = refused_state f 2

-- rows handed one call at a time: "each call gets the state that the one before left"
unfoldable pub steps_of : ℕ → State → List Parsed → State
steps_of q s [] = s
steps_of q s (x ∷ xs) = steps_of q (step_of q s x) xs

unfoldable pub run_of : ℕ → State → List Line → State
run_of q s [] = s
run_of q s (line ∷ lines) = run_of q (row_of q s line) lines

-- a row, rows, the end of file, what is printed and what a call answers, of a state that is lent
-- with its modulus
unfoldable pub lent_step : Lent → Parsed → Lent
lent_step l x = record { field = l.field; state = step_of (modulus_of l.field) l.state x }

unfoldable pub lent_steps : Lent → List Parsed → Lent
lent_steps l [] = l
lent_steps l (x ∷ xs) = lent_steps (lent_step l x) xs

unfoldable pub lent_end : Lent → Lent
lent_end l = record { field = l.field; state = end_of l.state }

unfoldable pub lent_report : Lent → Report
lent_report l = report_of l.state

unfoldable pub lent_answer : Lent → Report
lent_answer l = answer_of l.state
