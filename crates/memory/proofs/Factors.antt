-- The multiplications that are counted for factors and for hash steps are those of the equations: one for each record of their lists and for each element of
-- their hashes, but for the range's public setup, and one for each push, pop, enqueue or dequeue that its guard skips. Those for choices are one for each row that
-- uses the guard column, those for depth steps one for each dequeue.
-- Assumes nothing.
use Prim.Native.Nat.{ℕ, zero, suc, ◌+◌, ◌*◌}
use native.Mathlib.Omega.{arith}
use mathlib.Core.Path.{◌≡◌, refl, ◌∙◌, ap, ap₂}
use mathlib.Core.Bool.{true, false, ◌&&◌, cond}
use mathlib.Core.List.{List, [], ◌∷◌, ◌++◌, map}
use lib.Dec.{eqb, leb}
use lib.ListN.{length, length-append, length-map}
use borrow.Author.Tests.{eqb-true}
use Rattle.memory.specs.declared.Memory.{Memory}
use Rattle.memory.specs.declared.Memory.TheVariants.{Ram, Rom, Set, Stack, Queue}
use Rattle.memory.specs.declared.Op.{Op}
use Rattle.memory.specs.declared.Op.TheVariants.{Init, Access, Look, Member, Push, Pop, Enqueue, Dequeue, End, Range, Other}
use Rattle.memory.specs.declared.Phase.{Phase}
use Rattle.memory.specs.declared.Phase.TheVariants.{Starting, Operating, Ending, Ranging}
use Rattle.memory.specs.declared.Row.{Row}
use Rattle.memory.specs.Names.{op_code, is_op}
use Rattle.memory.specs.Rows.{limit, sized, allowed, raise_by, lower_by, ends_due, ranges_due, ops_due, op_in, columns, used}
use Rattle.memory.specs.Equations.{Triple, Lookup, Lists, init_writes, look_read, look_write, rom_ends, set_init, member_read, member_write, range_setup, range_read, range_write, range_ends, access_read, access_writes, access_lookups, cell_ends, push_write, push_writes, pop_read, pop_reads, pop_lookup, pop_lookups, enqueue_elements, enqueues, dequeue_elements, dequeues, end_element, end_olds, shuffle_lists, ranged_lists, lists_of, file_lists}
use Rattle.memory.specs.Gates.{costs, row_costs, factors_of, choices_of, hashes_of, depths_of, row_mults, mults_of, guarded, skipped_with, rows_with}
use Rattle.memory.specs.File.{rows_of}
use Rattle.memory.specs.Statements.{FactorsCounted, ChoicesCounted, HashesCounted, DepthsCounted, MultsCounted}
use Rattle.memory.proofs.Operations.{Ops, row_at, row_cases, not_among}
use Rattle.memory.proofs.ReadRows.{both_pass}
use Rattle.memory.proofs.Phases.{DueRows, Parts, due_ops, parts_lists, no_fault_phases}
use Rattle.memory.proofs.Gates.{tally, one_of, parts_only, stack_tally, queue_tally}

-- factors and hash steps by op
row_factors : Memory → Op → ℕ
row_factors m o = (row_costs m o).factors

row_hashes : Memory → Op → ℕ
row_hashes m o = (row_costs m o).hashes

tally_factors : (m : Memory) (rows : List Row) → factors_of m rows ≡ tally (row_factors m) rows
unfolding factors_of tally row_factors
tally_factors m [] = refl
tally_factors m (row ∷ rows) = ap (λ (k : ℕ). (row_costs m row.op).factors + k) (tally_factors m rows)

tally_hashes : (m : Memory) (rows : List Row) → hashes_of m rows ≡ tally (row_hashes m) rows
unfolding hashes_of tally row_hashes
tally_hashes m [] = refl
tally_hashes m (row ∷ rows) = ap (λ (k : ℕ). (row_costs m row.op).hashes + k) (tally_hashes m rows)

-- skipped rows of two lists
skipped_append : (o : Op) (xs ys : List Row) → skipped_with o (xs ++ ys) ≡ skipped_with o xs + skipped_with o ys
unfolding skipped_with
skipped_append o [] ys = omega arith
skipped_append o (x ∷ xs) ys = omega (arith, skipped_append o xs ys)

-- an op that is not due in a phase is none of its rows'
skipped_none : (m : Memory) (p : Phase) (o : Op) (rows : List Row) → op_in o (ops_due m p) ≡ false → DueRows m p rows → skipped_with o rows ≡ 0
unfolding skipped_with
skipped_none m p o [] none due = refl
skipped_none m p o (row ∷ rows) none due = rw (not_among (ops_due m p) row.op o none due.0.0) (omega (arith, skipped_none m p o rows none due.1))

-- the skipped rows are among the operations
skipped_parts : (o : Op) (q : ℕ) (m : Memory) (n t : ℕ) (rows : List Row) (p : Parts q m n t rows)
    → op_in o (ops_due m Starting) ≡ false → op_in o (ops_due m Ending) ≡ false → op_in o (ops_due m Ranging) ≡ false
    → skipped_with o rows ≡ skipped_with o p.ops
skipped_parts o q m n t rows p i e r =
    omega (
      arith,
      ap (skipped_with o) p.whole,
      skipped_append o p.inits (p.ops ++ (p.ends ++ p.ranges)),
      skipped_append o p.ops (p.ends ++ p.ranges),
      skipped_append o p.ends p.ranges,
      skipped_none m Starting o p.inits i p.starting,
      skipped_none m Ending o p.ends e p.ending,
      skipped_none m Ranging o p.ranges r p.ranging,
    )

-- and there is none where the op is not due among them
skipped_nowhere : (o : Op) (q : ℕ) (m : Memory) (n t : ℕ) (rows : List Row) (p : Parts q m n t rows)
    → op_in o (ops_due m Starting) ≡ false → op_in o (ops_due m Operating) ≡ false → op_in o (ops_due m Ending) ≡ false → op_in o (ops_due m Ranging) ≡ false
    → skipped_with o rows ≡ 0
skipped_nowhere o q m n t rows p i w e r = skipped_parts o q m n t rows p i e r ∙ skipped_none m Operating o p.ops w p.operating

-- How many records the lists hold.
init_writes_length : (i : ℕ) (rows : List Row) → length (init_writes i rows) ≡ length rows
unfolding init_writes
init_writes_length i [] = refl
init_writes_length i (row ∷ rows) = ap suc (init_writes_length (suc i) rows)

rom_ends_length : (i : ℕ) (rows : List Row) → length (rom_ends i rows) ≡ length rows
unfolding rom_ends
rom_ends_length i [] = refl
rom_ends_length i (row ∷ rows) = ap suc (rom_ends_length (suc i) rows)

cell_ends_length : (i : ℕ) (rows : List Row) → length (cell_ends i rows) ≡ length rows
unfolding cell_ends
cell_ends_length i [] = refl
cell_ends_length i (row ∷ rows) = ap suc (cell_ends_length (suc i) rows)

range_ends_length : (i : ℕ) (rows : List Row) → length (range_ends i rows) ≡ length rows
unfolding range_ends
range_ends_length i [] = refl
range_ends_length i (row ∷ rows) = ap suc (range_ends_length (suc i) rows)

access_writes_length : (clock : ℕ) (rows : List Row) → length (access_writes clock rows) ≡ length rows
unfolding access_writes
access_writes_length clock [] = refl
access_writes_length clock (row ∷ rows) = ap suc (access_writes_length (suc clock) rows)

access_lookups_length : (q clock : ℕ) (rows : List Row) → length (access_lookups q clock rows) ≡ length rows
unfolding access_lookups
access_lookups_length q clock [] = refl
access_lookups_length q clock (row ∷ rows) = ap suc (access_lookups_length q (suc clock) rows)

range_setup_length : (i t : ℕ) → length (range_setup i t) ≡ t
unfolding range_setup
range_setup_length i zero = refl
range_setup_length i (suc t) = ap suc (range_setup_length (suc i) t)

-- of two mapped or other lists
joint_length : {A : Type 0} (xs ys : List A) (a b : ℕ) → length xs ≡ a → length ys ≡ b → length (xs ++ ys) ≡ a + b
joint_length xs ys a b ha hb = omega (arith, length-append xs ys, ha, hb)

-- the records of the four lists
records_in : Lists → ℕ
records_in l = length l.written + length l.read + (length l.supplied + length l.looked)

-- the elements of the two hashes
elements_in : Lists → ℕ
elements_in l = length l.enqueued + length l.dequeued

-- a range of t numbers with k lookups
ranged_records : (q t : ℕ) (ws rs : List Triple) (lookups : List Lookup) (ranges : List Row) → length ranges ≡ t
    → records_in (ranged_lists q t ws rs lookups ranges) ≡ length ws + length rs + (2 * t + 2 * length lookups)
unfolding records_in ranged_lists
ranged_records q t ws rs lookups ranges ages =
    omega (
      arith,
      joint_length (range_setup 1 t) (map (range_write q) lookups) t (length lookups) (range_setup_length 1 t) (length-map lookups (range_write q)),
      joint_length (map range_read lookups) (range_ends 1 ranges) (length lookups) t (length-map lookups range_read) (range_ends_length 1 ranges ∙ ages),
    )

-- The factors counted, of each memory.
abbrev Factored : ℕ → Memory → ℕ → ℕ → List Row → Type 0
Factored q m n t rows = factors_of m rows + ranges_due m t ≡ records_in (file_lists q m n t rows) + (skipped_with Push rows + skipped_with Pop rows)

ram_factors : (q n t : ℕ) (rows : List Row) → Parts q Ram n t rows → Factored q Ram n t rows
unfolding row_factors row_costs costs lists_of ranges_due ops_due ends_due op_in is_op op_code
ram_factors q n t rows p =
    omega (
      arith,
      tally_factors Ram rows ∙ parts_only (row_factors Ram) q Ram n t Access rows p refl,
      p.depth,
      ap records_in (parts_lists q Ram n t rows p),
      ranged_records q t (init_writes 0 p.inits ++ access_writes 1 p.ops) (map access_read p.ops ++ cell_ends 0 p.ends) (access_lookups q 1 p.ops) p.ranges p.ages,
      joint_length (init_writes 0 p.inits) (access_writes 1 p.ops) n t (init_writes_length 0 p.inits ∙ p.size) (access_writes_length 1 p.ops ∙ p.count),
      joint_length (map access_read p.ops) (cell_ends 0 p.ends) t n (length-map p.ops access_read ∙ p.count) (cell_ends_length 0 p.ends ∙ p.depth),
      access_lookups_length q 1 p.ops ∙ p.count,
      skipped_nowhere Push q Ram n t rows p refl refl refl refl,
      skipped_nowhere Pop q Ram n t rows p refl refl refl refl,
    )

-- a memory of one shuffle
shuffle_factors : (q : ℕ) (m : Memory) (n t : ℕ) (rows : List Row) (ws rs : List Triple) → factors_of m rows ≡ n + (t * 2 + n) → ranges_due m t ≡ 0
    → file_lists q m n t rows ≡ shuffle_lists ws rs → length ws ≡ n + t → length rs ≡ t + n → skipped_with Push rows ≡ 0 → skipped_with Pop rows ≡ 0
    → Factored q m n t rows
unfolding records_in shuffle_lists
shuffle_factors q m n t rows ws rs counted ranges lists hw hr push pop = omega (arith, ap records_in lists)

rom_factors : (q n t : ℕ) (rows : List Row) → Parts q Rom n t rows → Factored q Rom n t rows
unfolding row_factors row_costs costs lists_of ranges_due ops_due ends_due op_in is_op op_code
rom_factors q n t rows p =
    shuffle_factors q Rom n t rows (init_writes 0 p.inits ++ map (look_write q) p.ops) (map look_read p.ops ++ rom_ends 0 p.ends)
    (omega (arith, tally_factors Rom rows ∙ parts_only (row_factors Rom) q Rom n t Look rows p refl, p.depth)) refl
    (parts_lists q Rom n t rows p)
    (joint_length (init_writes 0 p.inits) (map (look_write q) p.ops) n t (init_writes_length 0 p.inits ∙ p.size) (length-map p.ops (look_write q) ∙ p.count))
    (joint_length (map look_read p.ops) (rom_ends 0 p.ends) t n (length-map p.ops look_read ∙ p.count) (rom_ends_length 0 p.ends ∙ p.depth))
    (skipped_nowhere Push q Rom n t rows p refl refl refl refl)
    (skipped_nowhere Pop q Rom n t rows p refl refl refl refl)

set_factors : (q n t : ℕ) (rows : List Row) → Parts q Set n t rows → Factored q Set n t rows
unfolding row_factors row_costs costs lists_of ranges_due ops_due ends_due op_in is_op op_code
set_factors q n t rows p =
    shuffle_factors q Set n t rows (map set_init p.inits ++ map (member_write q) p.ops) (map member_read p.ops ++ map member_read p.ends)
    (omega (arith, tally_factors Set rows ∙ parts_only (row_factors Set) q Set n t Member rows p refl, p.depth)) refl
    (parts_lists q Set n t rows p)
    (joint_length (map set_init p.inits) (map (member_write q) p.ops) n t (length-map p.inits set_init ∙ p.size) (length-map p.ops (member_write q) ∙ p.count))
    (joint_length (map member_read p.ops) (map member_read p.ends) t n (length-map p.ops member_read ∙ p.count) (length-map p.ends member_read ∙ p.depth))
    (skipped_nowhere Push q Set n t rows p refl refl refl refl)
    (skipped_nowhere Pop q Set n t rows p refl refl refl refl)

-- A push writes a record or is skipped, a pop reads one or is skipped, and every pop looks up an age.
record StackCounted (q up down : ℕ) (ops : List Row) : Type 0 where
  pushes : tally (one_of Push) ops ≡ length (push_writes q up down ops) + skipped_with Push ops
  pops : tally (one_of Pop) ops ≡ length (pop_reads q up down ops) + skipped_with Pop ops
  looks : tally (one_of Pop) ops ≡ length (pop_lookups q up ops)

-- the same of one row
record StackRowCounted (q up down : ℕ) (row : Row) : Type 0 where
  pushes : one_of Push row.op ≡ length (push_write q up down row) + cond (is_op row.op Push && eqb row.guard 0) 1 0
  pops : one_of Pop row.op ≡ length (pop_read q up down row) + cond (is_op row.op Pop && eqb row.guard 0) 1 0
  looks : one_of Pop row.op ≡ length (pop_lookup q up row)

stack_row_counted : (q up down : ℕ) (row : Row) → op_in row.op (ops_due Stack Operating) ≡ true → leb row.guard 1 ≡ true → StackRowCounted q up down row
unfolding row_at one_of push_write pop_read pop_lookup is_op op_code ops_due
stack_row_counted q up down row op guard =
    row_cases (StackRowCounted q up down) Push Pop row
    (record { pushes = refl; pops = refl; looks = refl }) (record { pushes = refl; pops = refl; looks = refl })
    (record { pushes = refl; pops = refl; looks = refl }) (record { pushes = refl; pops = refl; looks = refl }) op guard

stack_counted : (q up down : ℕ) (ops : List Row) → Ops Stack ops → StackCounted q up down ops
unfolding tally push_writes pop_reads pop_lookups skipped_with
stack_counted q up down [] due = record { pushes = refl; pops = refl; looks = refl }
stack_counted q up down (row ∷ rows) due =
    let above = up + raise_by row.op row.guard in
    let below = down + lower_by row.op row.guard in
    let here = stack_row_counted q up down row due.0 due.1 in
    let rest = stack_counted q above below rows due.2 in
    record {
      pushes = omega (arith, here.pushes, rest.pushes, length-append (push_write q up down row) (push_writes q above below rows));
      pops = omega (arith, here.pops, rest.pops, length-append (pop_read q up down row) (pop_reads q above below rows));
      looks = omega (arith, here.looks, rest.looks, length-append (pop_lookup q up row) (pop_lookups q above rows));
    }

stack_factors : (q n t : ℕ) (rows : List Row) → n ≡ 0 → Parts q Stack n t rows → Factored q Stack n t rows
unfolding row_factors row_costs costs lists_of ranges_due ops_due op_in is_op op_code
stack_factors q n t rows none p =
    let c = stack_counted q 0 0 p.ops (due_ops Stack p.ops p.operating) in
    omega (
      arith,
      tally_factors Stack rows ∙ stack_tally (row_factors Stack) q n t rows p,
      ap records_in (parts_lists q Stack n t rows p),
      ranged_records q t (push_writes q 0 0 p.ops) (pop_reads q 0 0 p.ops ++ cell_ends 1 p.ends) (pop_lookups q 0 p.ops) p.ranges p.ages,
      length-append (pop_reads q 0 0 p.ops) (cell_ends 1 p.ends),
      cell_ends_length 1 p.ends,
      c.pushes,
      c.pops,
      c.looks,
      skipped_parts Push q Stack n t rows p refl refl refl,
      skipped_parts Pop q Stack n t rows p refl refl refl,
    )

queue_factors : (q n t : ℕ) (rows : List Row) → n ≡ 0 → Parts q Queue n t rows → Factored q Queue n t rows
unfolding row_factors row_costs costs lists_of ranges_due ops_due op_in is_op op_code records_in
queue_factors q n t rows none p =
    omega (
      arith,
      tally_factors Queue rows ∙ queue_tally (row_factors Queue) q n t rows p,
      ap records_in (parts_lists q Queue n t rows p),
      skipped_nowhere Push q Queue n t rows p refl refl refl refl,
      skipped_nowhere Pop q Queue n t rows p refl refl refl refl,
    )

parts_factors : (q : ℕ) (m : Memory) (n t : ℕ) (rows : List Row) → sized m n ≡ true → Parts q m n t rows → Factored q m n t rows
unfolding sized
parts_factors q Ram n t rows h p = ram_factors q n t rows p
parts_factors q Rom n t rows h p = rom_factors q n t rows p
parts_factors q Set n t rows h p = set_factors q n t rows p
parts_factors q Stack n t rows h p = stack_factors q n t rows (eqb-true n 0 h) p
parts_factors q Queue n t rows h p = queue_factors q n t rows (eqb-true n 0 h) p

-- Of a list of parsed rows.
pub factors_counted : FactorsCounted
unfolding records_in allowed
factors_counted q m n t xs h e = parts_factors q m n t (rows_of xs) (both_pass (sized m n) (leb t limit) h).0 (no_fault_phases q m n t xs e)

-- The hash steps counted, of each memory.
abbrev Hashed : ℕ → Memory → ℕ → ℕ → List Row → Type 0
Hashed q m n t rows = hashes_of m rows ≡ elements_in (file_lists q m n t rows) + (skipped_with Enqueue rows + skipped_with Dequeue rows)

-- a memory with no hash
plain_hashes : (q : ℕ) (m : Memory) (n t : ℕ) (rows : List Row) (p : Parts q m n t rows) → tally (row_hashes m) rows ≡ 0
    → elements_in (lists_of q m t p.inits p.ops p.ends p.ranges) ≡ 0 → op_in Enqueue (ops_due m Operating) ≡ false → op_in Dequeue (ops_due m Operating) ≡ false
    → Hashed q m n t rows
unfolding ops_due op_in is_op op_code
plain_hashes q m n t rows p counted elements enqueue dequeue =
    omega (
      arith,
      tally_hashes m rows,
      ap elements_in (parts_lists q m n t rows p),
      skipped_nowhere Enqueue q m n t rows p refl enqueue refl refl,
      skipped_nowhere Dequeue q m n t rows p refl dequeue refl refl,
    )

-- an enqueue adds an element or is skipped, and so does a dequeue
record QueueCounted (ops : List Row) : Type 0 where
  enters : tally (one_of Enqueue) ops ≡ length (enqueues ops) + skipped_with Enqueue ops
  leaves : tally (one_of Dequeue) ops ≡ length (dequeues ops) + skipped_with Dequeue ops

-- the same of one row
record QueueRowCounted (row : Row) : Type 0 where
  enters : one_of Enqueue row.op ≡ length (enqueue_elements row) + cond (is_op row.op Enqueue && eqb row.guard 0) 1 0
  leaves : one_of Dequeue row.op ≡ length (dequeue_elements row) + cond (is_op row.op Dequeue && eqb row.guard 0) 1 0

queue_row_counted : (row : Row) → op_in row.op (ops_due Queue Operating) ≡ true → leb row.guard 1 ≡ true → QueueRowCounted row
unfolding row_at one_of is_op op_code ops_due
queue_row_counted row op guard =
    row_cases QueueRowCounted Enqueue Dequeue row
    (record { enters = refl; leaves = refl }) (record { enters = refl; leaves = refl })
    (record { enters = refl; leaves = refl }) (record { enters = refl; leaves = refl }) op guard

queue_counted : (ops : List Row) → Ops Queue ops → QueueCounted ops
unfolding tally enqueues dequeues skipped_with
queue_counted [] due = record { enters = refl; leaves = refl }
queue_counted (row ∷ rows) due =
    let here = queue_row_counted row due.0 due.1 in
    let rest = queue_counted rows due.2 in
    record {
      enters = omega (arith, here.enters, rest.enters, length-append (enqueue_elements row) (enqueues rows));
      leaves = omega (arith, here.leaves, rest.leaves, length-append (dequeue_elements row) (dequeues rows));
    }

queue_hashes : (q n t : ℕ) (rows : List Row) → Parts q Queue n t rows → Hashed q Queue n t rows
unfolding row_hashes row_costs costs lists_of ops_due op_in is_op op_code elements_in end_olds
queue_hashes q n t rows p =
    let c = queue_counted p.ops (due_ops Queue p.ops p.operating) in
    omega (
      arith,
      tally_hashes Queue rows ∙ queue_tally (row_hashes Queue) q n t rows p,
      ap elements_in (parts_lists q Queue n t rows p),
      length-append (dequeues p.ops) (end_olds p.ends),
      length-map p.ends end_element,
      c.enters,
      c.leaves,
      skipped_parts Enqueue q Queue n t rows p refl refl refl,
      skipped_parts Dequeue q Queue n t rows p refl refl refl,
    )

parts_hashes : (q : ℕ) (m : Memory) (n t : ℕ) (rows : List Row) → Parts q m n t rows → Hashed q m n t rows
unfolding row_hashes row_costs costs lists_of ranged_lists shuffle_lists elements_in ranges_due ops_due op_in is_op op_code
parts_hashes q Ram n t rows p = plain_hashes q Ram n t rows p (omega (arith, parts_only (row_hashes Ram) q Ram n t Access rows p refl)) refl refl refl
parts_hashes q Rom n t rows p = plain_hashes q Rom n t rows p (omega (arith, parts_only (row_hashes Rom) q Rom n t Look rows p refl)) refl refl refl
parts_hashes q Set n t rows p = plain_hashes q Set n t rows p (omega (arith, parts_only (row_hashes Set) q Set n t Member rows p refl)) refl refl refl
parts_hashes q Stack n t rows p = plain_hashes q Stack n t rows p (omega (arith, stack_tally (row_hashes Stack) q n t rows p)) refl refl refl
parts_hashes q Queue n t rows p = queue_hashes q n t rows p

-- Of a list of parsed rows.
pub hashes_counted : HashesCounted
unfolding elements_in
hashes_counted q m n t xs e = parts_hashes q m n t (rows_of xs) (no_fault_phases q m n t xs e)

-- A choice for each row that uses the guard column,
choice_of : (m : Memory) (o : Op) → (row_costs m o).choices ≡ cond (used m o).guard 1 0
unfolding row_costs costs used columns
choice_of m Init = refl
choice_of m Access = refl
choice_of m Look = refl
choice_of m Member = refl
choice_of m Push = refl
choice_of m Pop = refl
choice_of m Enqueue = refl
choice_of m Dequeue = refl
choice_of Ram End = refl
choice_of Rom End = refl
choice_of Set End = refl
choice_of Stack End = refl
choice_of Queue End = refl
choice_of m Range = refl
choice_of m Other = refl

pub choices_counted : ChoicesCounted
unfolding choices_of guarded
choices_counted m [] = refl
choices_counted m (row ∷ rows) = ap₂ ◌+◌ (choice_of m row.op) (choices_counted m rows)

-- and a depth step for each dequeue.
depth_of : (m : Memory) (o : Op) → (row_costs m o).depths ≡ cond (is_op o Dequeue) 1 0
unfolding row_costs costs is_op op_code
depth_of m Init = refl
depth_of m Access = refl
depth_of m Look = refl
depth_of m Member = refl
depth_of m Push = refl
depth_of m Pop = refl
depth_of m Enqueue = refl
depth_of m Dequeue = refl
depth_of Ram End = refl
depth_of Rom End = refl
depth_of Set End = refl
depth_of Stack End = refl
depth_of Queue End = refl
depth_of m Range = refl
depth_of m Other = refl

pub depths_counted : DepthsCounted
unfolding depths_of rows_with
depths_counted m [] = refl
depths_counted m (row ∷ rows) = ap₂ ◌+◌ (depth_of m row.op) (depths_counted m rows)

-- The multiplications are these four together.
pub mults_counted : MultsCounted
unfolding mults_of factors_of choices_of hashes_of depths_of row_mults
mults_counted m [] = refl
mults_counted m (row ∷ rows) = omega (arith, mults_counted m rows)
