-- Which rows are due, which columns a row uses, and the faults of a row line: sections "The file" and "The numbers" of document 01.
-- The modulus q is document 01's p wherever a file is checked.
-- Assumes nothing.
use Rattle.std.specs.Prelude.{ℕ, ◌+◌, ◌-◌, Bool, true, false, ◌&&◌, ◌||◌, cond, List, [], ◌∷◌, ◌++◌, eqb, leb, ltb, length, get_or, take, drop}
use Rattle.algebra.specs.Modulo.{minus, times}
use Rattle.memory.specs.declared.Memory.{Memory}
use Rattle.memory.specs.declared.Memory.TheVariants.{Ram, Rom, Set, Stack, Queue}
use Rattle.memory.specs.declared.Op.{Op}
use Rattle.memory.specs.declared.Op.TheVariants.{Init, Access, Look, Member, Push, Pop, Enqueue, Dequeue, End, Range, Other}
use Rattle.memory.specs.declared.Phase.{Phase}
use Rattle.memory.specs.declared.Phase.TheVariants.{Starting, Operating, Ending, Ranging, Over}
use Rattle.memory.specs.declared.Row.{Row}
use Rattle.memory.specs.Faults.{Parsed}
use Rattle.std.specs.Prelude.{Ok, Err}
use Rattle.memory.specs.Bytes.{Line, all_below, Fields, named, no_fields, fields_of}
use Rattle.memory.specs.Names.{op_named, is_op}
use Rattle.memory.specs.Content.{Content, content_of, number_of}

-- "Size n is 0 to 65,536, and 0 for stack and queue. Count T is 0 to 65,536."
unfoldable pub limit : ℕ
limit = 65536

unfoldable pub sized : Memory → ℕ → Bool
sized Ram n = leb n limit
sized Rom n = leb n limit
sized Set n = leb n limit
sized Stack n = eqb n 0
sized Queue n = eqb n 0

unfoldable pub allowed : Memory → ℕ → ℕ → Bool
allowed m n t = sized m n && leb t limit

-- by how much an operation raises and lowers the depth: "Push adds guard to depth", "Enqueue adds guard to depth",
-- a pop or dequeue subtracts guard from it
unfoldable pub raise_by : Op → ℕ → ℕ
raise_by o g = cond (is_op o Push || is_op o Enqueue) g 0

unfoldable pub lower_by : Op → ℕ → ℕ
lower_by o g = cond (is_op o Pop || is_op o Dequeue) g 0

-- the executed pushes or enqueues of a list of rows, and the executed pops or dequeues
unfoldable pub raised : List Row → ℕ
raised [] = 0
raised (row ∷ rows) = raise_by row.op row.guard + raised rows

unfoldable pub lowered : List Row → ℕ
lowered [] = 0
lowered (row ∷ rows) = lower_by row.op row.guard + lowered rows

-- "End rows: n for ram, rom, set; the final depth D for stack and queue", D given by how often the depth rose and fell
unfoldable pub ends_due : Memory → ℕ → ℕ → ℕ → ℕ
ends_due Ram n up down = n
ends_due Rom n up down = n
ends_due Set n up down = n
ends_due Stack n up down = up - down
ends_due Queue n up down = up - down

-- "then for ram and stack T `range` rows"
unfoldable pub ranges_due : Memory → ℕ → ℕ
ranges_due Ram t = t
ranges_due Rom t = 0
ranges_due Set t = 0
ranges_due Stack t = t
ranges_due Queue t = 0

-- "Which rows are due is decided by the memory and by how many have passed: n `init` (ram, rom, set); T operations; the `end` rows; then
-- for ram and stack T `range` rows": the phase of the row after k rows, where `ends` end rows and `ranges` range rows are due
unfoldable pub phase_at : ℕ → ℕ → ℕ → ℕ → ℕ → Phase
phase_at n t ends ranges k =
    cond (ltb k n) Starting
    (cond (ltb k (n + t)) Operating
    (cond (ltb k (n + t + ends)) Ending
    (cond (ltb k (n + t + ends + ranges)) Ranging Over)))

-- "n `init` (ram, rom, set); T operations": these parts of a list of rows
abbrev pub init_rows : ℕ → List Row → List Row
init_rows n rows = take n rows

abbrev pub operation_rows : ℕ → ℕ → List Row → List Row
operation_rows n t rows = take t (drop n rows)

-- "init (ram, rom, set)", "Stacks take push and pop, queues enqueue and dequeue, in any order": the ops due in each phase of each memory
unfoldable pub ops_due : Memory → Phase → List Op
ops_due m Starting = Init ∷ []
ops_due Ram Operating = Access ∷ []
ops_due Rom Operating = Look ∷ []
ops_due Set Operating = Member ∷ []
ops_due Stack Operating = Push ∷ Pop ∷ []
ops_due Queue Operating = Enqueue ∷ Dequeue ∷ []
ops_due m Ending = End ∷ []
ops_due m Ranging = Range ∷ []
ops_due m Over = []

unfoldable pub op_in : Op → List Op → Bool
op_in o [] = false
op_in o (x ∷ xs) = is_op o x || op_in o xs

-- the columns that a row may use; "Other columns hold 0."
pub record Columns : Type 0 where
  pub guard : Bool
  pub addr : Bool
  pub value : Bool
  pub old : Bool
  pub time : Bool
  pub version : Bool

unfoldable pub columns : Bool → Bool → Bool → Bool → Bool → Bool → Columns
columns g a v o t n = record { guard = g; addr = a; value = v; old = o; time = t; version = n }

-- "Columns used", by memory and op
unfoldable pub used : Memory → Op → Columns
used m Init = columns false false true false false false
used m Access = columns true true true true true true
used m Look = columns false true false true false true
used m Member = columns false false true false false true
used m Push = columns true false true false false false
used m Pop = columns true false false true true true
used m Enqueue = columns true false true false false false
used m Dequeue = columns true false false true false false
used Ram End = columns false false false true true false
used Rom End = columns false false true false false true
used Set End = columns false false true false false true
used Stack End = columns false false false true true false
used Queue End = columns false false false true false false
used m Range = columns false false false false false true
used m Other = columns false false false false false false

-- "Other columns hold 0."
unfoldable pub used_or_zero : Bool → ℕ → Bool
used_or_zero used x = used || eqb x 0

-- the same of a column of contents
abbrev pub used_or_none : Bool → Content → Bool
used_or_none used y = used_or_zero used (number_of y)

-- whether a row does not meet 6: "guard above 1, or an unused column not 0"
unfoldable pub formed : Memory → Row → Bool
formed m row =
    let u = used m row.op in
    (leb row.guard 1 && used_or_zero u.guard row.guard)
    && ((used_or_zero u.addr row.addr && used_or_none u.value row.value)
    && (used_or_none u.old row.old && (used_or_zero u.time row.time && used_or_zero u.version row.version)))

-- 3: "a number is p or more", of a row's six numbers
unfoldable pub row_below : ℕ → Row → Bool
row_below q row = all_below q (row.guard ∷ row.addr ∷ number_of row.value ∷ number_of row.old ∷ row.time ∷ row.version ∷ [])

-- the fields of a row line: `op,guard,addr,value,old,time,version`
abbrev pub row_fields : ℕ
row_fields = 7

-- the row of an op and the numbers that follow it in these fields
unfoldable pub row_with : Op → List ℕ → Row
row_with o ns =
    record {
      op = o;
      guard = get_or ns 0 0;
      addr = get_or ns 1 0;
      value = content_of (get_or ns 2 0);
      old = content_of (get_or ns 3 0);
      time = get_or ns 4 0;
      version = get_or ns 5 0;
    }

-- what the fields of a row line stand for: the row whose op has that name, or the line's fault
unfoldable pub row_read : Fields → Parsed
row_read (named name ns) = Ok (row_with (op_named name) ns)
row_read (no_fields f) = Err f

-- what a row line reads as
unfoldable pub parse_row : ℕ → Line → Parsed
parse_row q line = row_read (fields_of q row_fields line)

-- the queue's product: "Each dequeue multiplies a product by depth + 1 − guard, before depth falls by guard", after `up` executed enqueues and `down` executed dequeues
unfoldable pub depth_factor : ℕ → ℕ → ℕ → Row → ℕ
depth_factor q up down row = cond (is_op row.op Dequeue) (minus q (up + 1) (down + row.guard)) 1

unfoldable pub depth_product : ℕ → ℕ → ℕ → List Row → ℕ
depth_product q up down [] = 1
depth_product q up down (row ∷ rows) =
    times q (depth_factor q up down row)
    (depth_product q (up + raise_by row.op row.guard) (down + lower_by row.op row.guard) rows)

-- 8: "the queue's depth product is 0, or the stack's depth is below 0", by how often the depth rose and fell and by that product; and of all operations
abbrev pub sunk_by : Memory → ℕ → ℕ → ℕ → Bool
sunk_by Ram up down product = false
sunk_by Rom up down product = false
sunk_by Set up down product = false
sunk_by Stack up down product = ltb up down
sunk_by Queue up down product = eqb product 0

unfoldable pub sunk : ℕ → Memory → List Row → Bool
sunk q m rows = sunk_by m (raised rows) (lowered rows) (depth_product q 0 0 rows)

-- how many rows are due in all, by how often the depth rose and fell; and by the rows that have passed
abbrev pub due_by : Memory → ℕ → ℕ → ℕ → ℕ → ℕ
due_by m n t up down = n + t + ends_due m n up down + ranges_due m t

unfoldable pub due_after : Memory → ℕ → ℕ → List Row → ℕ
due_after m n t rows = due_by m n t (raised rows) (lowered rows)

-- the phase of the next row, by the same and by how many rows have passed
abbrev pub phase_by : Memory → ℕ → ℕ → ℕ → ℕ → ℕ → Phase
phase_by m n t up down k = phase_at n t (ends_due m n up down) (ranges_due m t) k

unfoldable pub phase_after : Memory → ℕ → ℕ → List Row → Phase
phase_after m n t rows = phase_by m n t (raised rows) (lowered rows) (length rows)

-- the fault of the row after k rows, or 0, by whether its op is due, whether it has its form, and whether the depth is sunk with it: 5 and 6, and "at the last
-- operation row" 8
abbrev pub fault_by : ℕ → ℕ → ℕ → Bool → Bool → Bool → ℕ
fault_by n t k due form sunk = cond due (cond form (cond (leb 1 t && (eqb (k + 1) (n + t) && sunk)) 8 0) 6) 5

-- the fault of a row after the rows that have passed
unfoldable pub row_fault : ℕ → Memory → ℕ → ℕ → List Row → Row → ℕ
row_fault q m n t rows row =
    fault_by n t (length rows) (op_in row.op (ops_due m (phase_after m n t rows))) (formed m row) (sunk q m (rows ++ row ∷ []))

-- the number of a line that reads as no row: 3, and 2 for any other fault
abbrev pub unread_fault : ℕ → ℕ
unread_fault f = cond (eqb f 3) 3 2

-- the fault of what a line reads as, "on one line, table order": a row with a number of q or more is 3, before 5 and 6
unfoldable pub parsed_fault : ℕ → Memory → ℕ → ℕ → List Row → Parsed → ℕ
parsed_fault q m n t rows (Ok row) = cond (row_below q row) (row_fault q m n t rows row) 3
parsed_fault q m n t rows (Err f) = unread_fault f

-- the fault of a line after the rows that have passed, or 0: "a surplus line is 7 without being read"
unfoldable pub line_fault : ℕ → Memory → ℕ → ℕ → List Row → Parsed → ℕ
line_fault q m n t rows parsed = cond (ltb (length rows) (due_after m n t rows)) (parsed_fault q m n t rows parsed) 7
