-- Section "The equations" of document 01: for each memory the lists of records written and read, of range pairs, and of hashed elements, as functions of
-- the rows; the factor of a record, the products, and when a shuffle balances. A modulus q is document 01's p.
-- Assumes nothing.
-- `◌-◌` and `length` are used by edits of must-fail/ alone
use Rattle.std.specs.Prelude.{ℕ, zero, suc, ◌+◌, ◌-◌, ◌*◌, Bool, ◌&&◌, cond, List, [], ◌∷◌, ◌++◌, map, eqb, length, take, drop}
use Rattle.algebra.specs.Modulo.{plus, minus, times}
use Rattle.algebra.specs.Hash.{hash}
use Rattle.memory.specs.declared.Memory.{Memory}
use Rattle.memory.specs.declared.Memory.TheVariants.{Ram, Rom, Set, Stack, Queue}
use Rattle.memory.specs.declared.Op.TheVariants.{Push, Pop, Enqueue, Dequeue}
use Rattle.memory.specs.declared.Row.{Row}
use Rattle.memory.specs.declared.Challenge.{Challenge}
use Rattle.memory.specs.Names.{is_op}
use Rattle.memory.specs.Content.{Content, content_of, number_of, weighed}
use Rattle.memory.specs.Rows.{raise_by, lower_by, raised, lowered, ends_due, init_rows, operation_rows}

-- "A triple (x, y, z)": of a cell's record y is its content
pub record Triple : Type 0 where
  pub x : ℕ
  pub y : Content
  pub z : ℕ

unfoldable pub triple : ℕ → Content → ℕ → Triple
triple x y z = record { x = x; y = y; z = z }

-- A pair (x, y) is the triple (x, y, 0): c · 0 adds nothing to its factor r − (a·x + b·y)
unfoldable pub pair : ℕ → ℕ → Triple
pair x y = triple x (content_of y) 0

-- "A triple (x, y, z) gives the factor r − (a·x + b·y + c·z)"
unfoldable pub factor : ℕ → Challenge → Triple → ℕ
factor q ch t = minus q ch.r (ch.a * t.x + weighed ch.b t.y + ch.c * t.z)

-- "All products start at 1."
unfoldable pub product : ℕ → Challenge → List Triple → ℕ
product q ch [] = 1
product q ch (t ∷ ts) = times q (factor q ch t) (product q ch ts)

-- "A shuffle balances when its two products are equal."
unfoldable pub balanced : ℕ → Challenge → List Triple → List Triple → Bool
balanced q ch ts us = eqb (product q ch ts) (product q ch us)

-- The lists of a file. A list that a memory does not have is empty.
pub record Lists : Type 0 where
  -- the records that the memory's shuffle writes and reads
  pub written : List Triple
  pub read : List Triple
  -- the pairs that the range's shuffle writes and reads
  pub supplied : List Triple
  pub looked : List Triple
  -- the elements that the queue's two hashes take
  pub enqueued : List Content
  pub dequeued : List Content

-- rom and ram: "Init writes (address, value, 0), addresses counting from 0."
abbrev pub init_write : ℕ → Row → Triple
init_write i row = triple i row.value 0

unfoldable pub init_writes : ℕ → List Row → List Triple
init_writes i [] = []
init_writes i (row ∷ rows) = init_write i row ∷ init_writes (suc i) rows

-- rom: "Look reads (addr, old, version) and writes (addr, old, version + 1)."
unfoldable pub look_read : Row → Triple
look_read row = triple row.addr row.old row.version

unfoldable pub look_write : ℕ → Row → Triple
look_write q row = triple row.addr row.old (plus q row.version 1)

-- rom: "End reads (address, value, version)"
abbrev pub rom_end : ℕ → Row → Triple
rom_end i row = triple i row.value row.version

unfoldable pub rom_ends : ℕ → List Row → List Triple
rom_ends i [] = []
rom_ends i (row ∷ rows) = rom_end i row ∷ rom_ends (suc i) rows

-- set: "The same with pairs (value, version), end rows in init order."
unfoldable pub set_init : Row → Triple
set_init row = pair (number_of row.value) 0

unfoldable pub member_read : Row → Triple
member_read row = pair (number_of row.value) row.version

unfoldable pub member_write : ℕ → Row → Triple
member_write q row = pair (number_of row.value) (plus q row.version 1)

-- A lookup in the range: the age that is looked up, and the version
pub record Lookup : Type 0 where
  pub age : ℕ
  pub version : ℕ

-- range: "A set holding 1 to T, set up at version 0.": a number, and the numbers from i on, t of them
abbrev pub range_set : ℕ → Triple
range_set i = pair i 0

unfoldable pub range_setup : ℕ → ℕ → List Triple
range_setup i zero = []
range_setup i (suc t) = range_set i ∷ range_setup (suc i) t

unfoldable pub range_read : Lookup → Triple
range_read l = pair l.age l.version

unfoldable pub range_write : ℕ → Lookup → Triple
range_write q l = pair l.age (plus q l.version 1)

-- the range rows end the set: they read (i, version), i from 1
abbrev pub range_end : ℕ → Row → Triple
range_end i row = pair i row.version

unfoldable pub range_ends : ℕ → List Row → List Triple
range_ends i [] = []
range_ends i (row ∷ rows) = range_end i row ∷ range_ends (suc i) rows

-- ram: "Access reads (addr, old, time)"
unfoldable pub access_read : Row → Triple
access_read row = triple row.addr row.old row.time

-- ram: "new is value under guard 1, old under guard 0"
unfoldable pub new_of : Row → Content
new_of row = cond (eqb row.guard 1) row.value row.old

-- ram: "writes (addr, new, clock), and the clock rises by 1"
abbrev pub access_write : ℕ → Row → Triple
access_write clock row = triple row.addr (new_of row) clock

unfoldable pub access_writes : ℕ → List Row → List Triple
access_writes clock [] = []
access_writes clock (row ∷ rows) = access_write clock row ∷ access_writes (suc clock) rows

-- ram: "looks up clock − time in the range"
abbrev pub access_lookup : ℕ → ℕ → Row → Lookup
access_lookup q clock row = record { age = minus q clock row.time; version = row.version }

unfoldable pub access_lookups : ℕ → ℕ → List Row → List Lookup
access_lookups q clock [] = []
access_lookups q clock (row ∷ rows) = access_lookup q clock row ∷ access_lookups q (suc clock) rows

-- ram: "End reads (address, old, time)", addresses from 0; stack: "End reads (i, old, time), i from 1 to D"
abbrev pub cell_end : ℕ → Row → Triple
cell_end i row = triple i row.old row.time

unfoldable pub cell_ends : ℕ → List Row → List Triple
cell_ends i [] = []
cell_ends i (row ∷ rows) = cell_end i row ∷ cell_ends (suc i) rows

-- stack: after `up` executed pushes and `down` executed pops the depth is up − down and the clock is 1 + up.
-- "Push adds guard to depth, writes (depth, value, clock) if guard is 1"
unfoldable pub push_write : ℕ → ℕ → ℕ → Row → List Triple
push_write q up down row =
    cond (is_op row.op Push && eqb row.guard 1) (triple (minus q (up + 1) down) row.value (up + 1) ∷ []) []

unfoldable pub push_writes : ℕ → ℕ → ℕ → List Row → List Triple
push_writes q up down [] = []
push_writes q up down (row ∷ rows) =
    push_write q up down row ++ push_writes q (up + raise_by row.op row.guard) (down + lower_by row.op row.guard) rows

-- stack: pop "reads (depth, old, time) if guard is 1; subtracts guard from depth"
unfoldable pub pop_read : ℕ → ℕ → ℕ → Row → List Triple
pop_read q up down row =
    cond (is_op row.op Pop && eqb row.guard 1) (triple (minus q up down) row.old row.time ∷ []) []

unfoldable pub pop_reads : ℕ → ℕ → ℕ → List Row → List Triple
pop_reads q up down [] = []
pop_reads q up down (row ∷ rows) =
    pop_read q up down row ++ pop_reads q (up + raise_by row.op row.guard) (down + lower_by row.op row.guard) rows

-- stack: "Pop looks up clock − time, whatever the guard"
unfoldable pub pop_lookup : ℕ → ℕ → Row → List Lookup
pop_lookup q up row =
    cond (is_op row.op Pop) (record { age = minus q (up + 1) row.time; version = row.version } ∷ []) []

unfoldable pub pop_lookups : ℕ → ℕ → List Row → List Lookup
pop_lookups q up [] = []
pop_lookups q up (row ∷ rows) = pop_lookup q up row ++ pop_lookups q (up + raise_by row.op row.guard) rows

-- queue: "An executed enqueue or dequeue makes its hash h·r + element.": the elements of one row, and of a list of rows
abbrev pub enqueue_elements : Row → List Content
enqueue_elements row = cond (is_op row.op Enqueue && eqb row.guard 1) (row.value ∷ []) []

unfoldable pub enqueues : List Row → List Content
enqueues [] = []
enqueues (row ∷ rows) = enqueue_elements row ++ enqueues rows

abbrev pub dequeue_elements : Row → List Content
dequeue_elements row = cond (is_op row.op Dequeue && eqb row.guard 1) (row.old ∷ []) []

unfoldable pub dequeues : List Row → List Content
dequeues [] = []
dequeues (row ∷ rows) = dequeue_elements row ++ dequeues rows

-- queue: "End continues the dequeue hash."
abbrev pub end_element : Row → Content
end_element row = row.old

unfoldable pub end_olds : List Row → List Content
end_olds rows = map end_element rows

-- the lists of a memory with no range and no hash
unfoldable pub shuffle_lists : List Triple → List Triple → Lists
shuffle_lists ws rs = record { written = ws; read = rs; supplied = []; looked = []; enqueued = []; dequeued = [] }

-- the lists of a memory with t range rows, which end the lookups
unfoldable pub ranged_lists : ℕ → ℕ → List Triple → List Triple → List Lookup → List Row → Lists
ranged_lists q t ws rs lookups ranges = record {
  written = ws;
  read = rs;
  supplied = range_setup 1 t ++ map (range_write q) lookups;
  looked = map range_read lookups ++ range_ends 1 ranges;
  enqueued = [];
  dequeued = [];
}

-- the lists of each memory, by its init rows, operations, end rows and range rows
unfoldable pub lists_of : ℕ → Memory → ℕ → List Row → List Row → List Row → List Row → Lists
lists_of q Rom t inits ops ends ranges =
    shuffle_lists (init_writes 0 inits ++ map (look_write q) ops) (map look_read ops ++ rom_ends 0 ends)
lists_of q Set t inits ops ends ranges =
    shuffle_lists (map set_init inits ++ map (member_write q) ops) (map member_read ops ++ map member_read ends)
lists_of q Ram t inits ops ends ranges =
    ranged_lists q t (init_writes 0 inits ++ access_writes 1 ops) (map access_read ops ++ cell_ends 0 ends) (access_lookups q 1 ops) ranges
lists_of q Stack t inits ops ends ranges =
    ranged_lists q t (push_writes q 0 0 ops) (pop_reads q 0 0 ops ++ cell_ends 1 ends) (pop_lookups q 0 ops) ranges
lists_of q Queue t inits ops ends ranges =
    record { written = []; read = []; supplied = []; looked = []; enqueued = enqueues ops; dequeued = dequeues ops ++ end_olds ends }

-- the end rows and the range rows of a complete list of rows
unfoldable pub end_rows : Memory → ℕ → ℕ → List Row → List Row
end_rows m n t rows = take (ends_due m n (raised rows) (lowered rows)) (drop (n + t) rows)

unfoldable pub range_rows : Memory → ℕ → ℕ → List Row → List Row
range_rows m n t rows = drop (n + t + ends_due m n (raised rows) (lowered rows)) rows

unfoldable pub file_lists : ℕ → Memory → ℕ → ℕ → List Row → Lists
file_lists q m n t rows =
    lists_of q m t (init_rows n rows) (operation_rows n t rows) (end_rows m n t rows) (range_rows m n t rows)

-- 9: "range does not balance"
unfoldable pub range_balances : ℕ → Challenge → Lists → Bool
range_balances q ch l = balanced q ch l.supplied l.looked

-- 10: "memory shuffle or hashes differ"
unfoldable pub memory_balances : ℕ → Challenge → Lists → Bool
memory_balances q ch l =
    balanced q ch l.written l.read && eqb (hash q ch.r l.enqueued) (hash q ch.r l.dequeued)
