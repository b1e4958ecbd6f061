-- The stack of document 01, from the filler's rows to balanced shuffles: the operation rows, end
-- rows and range rows that the filler writes; where every operation is possible, the records
-- written are those read and ended, the ages are in the range and their versions count the earlier
-- lookups, there are as many end rows as the depth, and every operation fits. And a right trace is
-- possible, its filled rows have the same operations, and its depth is not below 0.
-- Assumes nothing.
use Prim.Native.Nat.{ℕ, suc, ◌+◌, ◌-◌, ◌≤◌, ◌<◌}
use mathlib.Core.Path.{◌≡◌, refl, sym, ◌∙◌, ap, ap₂, subst}
use mathlib.Core.Bool.{Bool, true, false, cond, false≢true, and-eq-true_iff}
use mathlib.Core.List.{List, [], ◌∷◌, ◌++◌, map}
use native.Mathlib.Omega.{arith}
use lib.Dec.{eqb}
use lib.ListN.{length, drop, length-append}
use Rattle.algebra.specs.Modulo.{minus}
use Rattle.algebra.specs.Multiset.{total, EquallyOften}
use Rattle.algebra.proofs.Multiset.{total_append}
use Rattle.memory.specs.declared.Memory.TheVariants.{Stack}
use Rattle.memory.specs.declared.Op.TheVariants.{Push, Pop}
use Rattle.memory.specs.declared.Row.{Row}
use Rattle.memory.specs.Content.{Content, no_content, same_content}
use Rattle.memory.specs.Names.{op_code, is_op}
use Rattle.memory.specs.Rows.{raise_by, lower_by, raised, lowered, ops_due}
use Rattle.memory.specs.Equations.{Triple, triple, Lookup, push_write, push_writes, pop_read, pop_reads, pop_lookup, pop_lookups, cell_ends, range_setup, range_read, range_write, range_ends}
use Rattle.memory.proofs.Content.{same_content_lem}
use Rattle.runs.specs.Plain.{Operation, push, skipped_push, pop, skipped_pop, operation_of, all_fit, fits, after}
use Rattle.runs.specs.Honest.{Input, input_of, filled_row, bare, end_row, Cell, cell, cell_at, top_cell, occurrences, range_rows_from, stack_ends, pop_time, pop_row, stack_from, impossible, input_operation, possible}
use Rattle.runs.proofs.Ages.{InRange}
use Rattle.runs.proofs.Clock.{age_of_earlier}
use Rattle.memory.proofs.Operations.{Ops, row_at, row_cases}
use Rattle.runs.proofs.Inputs.{Inputs, input_at, input_cases}
use Rattle.runs.proofs.Differences.{minus_exact}
use Rattle.runs.proofs.HonestLookups.{keys_after, honest, honest_lookups, ages_after, AgesIn, range_complete}
use Rattle.runs.proofs.HonestAges.{Before, before_later, lookups_in_range}
use Rattle.runs.proofs.StackCells.{stack_records, Balanced, stacked, pop_top, pop_after, pop_possible, pop_impossible, pop_unfit}

-- the age that an operation of a stack looks up at a clock: that of a pop
unfoldable pub stack_age : List Cell → ℕ → Input → List ℕ
stack_age cells clock i = cond (is_op i.op Push) [] ((clock - pop_time cells clock i) ∷ [])

-- the row that the filler writes for it, over the ages looked up before it
unfoldable pub stack_row : List Cell → ℕ → List ℕ → Input → Row
stack_row cells clock ages i =
    filled_row i
    (cond (is_op i.op Push) no_content (cond (eqb i.guard 1) (top_cell cells).content no_content))
    (cond (is_op i.op Push) 0 (pop_time cells clock i))
    (cond (is_op i.op Push) 0 (occurrences (clock - pop_time cells clock i) ages))

-- the cells and the clock after it
unfoldable pub stack_cells : List Cell → ℕ → Input → List Cell
stack_cells cells clock i =
    cond (is_op i.op Push)
    (cond (eqb i.guard 1) (cell i.value clock ∷ cells) cells)
    (cond (eqb i.guard 1) (drop 1 cells) cells)

unfoldable pub stack_clock : ℕ → Input → ℕ
stack_clock clock i = cond (is_op i.op Push) (clock + i.guard) clock

-- the operation rows, the ages that they look up in their order, the cells left, and all ages looked up, the last one first
unfoldable pub stack_ops : List Cell → ℕ → List ℕ → List Input → List Row
stack_ops cells clock ages [] = []
stack_ops cells clock ages (i ∷ is) =
    stack_row cells clock ages i
    ∷ stack_ops (stack_cells cells clock i) (stack_clock clock i) (ages_after ages (stack_age cells clock i)) is

unfoldable pub stack_ages : List Cell → ℕ → List Input → List ℕ
stack_ages cells clock [] = []
stack_ages cells clock (i ∷ is) = stack_age cells clock i ++ stack_ages (stack_cells cells clock i) (stack_clock clock i) is

unfoldable pub stack_final_cells : List Cell → ℕ → List Input → List Cell
stack_final_cells cells clock [] = cells
stack_final_cells cells clock (i ∷ is) = stack_final_cells (stack_cells cells clock i) (stack_clock clock i) is

unfoldable pub stack_final_ages : List Cell → ℕ → List ℕ → List Input → List ℕ
stack_final_ages cells clock ages [] = ages
stack_final_ages cells clock ages (i ∷ is) =
    stack_final_ages (stack_cells cells clock i) (stack_clock clock i) (ages_after ages (stack_age cells clock i)) is

-- one step of the filler
stack_step :
    (i : Input) (rest : List Cell → ℕ → List ℕ → List Row) (b : Bool) (o : Content) (s n c d : ℕ) (xs ys : List Cell) (ages : List ℕ) (a : ℕ)
    → cond b (bare i ∷ rest xs c ages) (filled_row i o s n ∷ rest ys d (a ∷ ages))
    ≡ filled_row i (cond b no_content o) (cond b 0 s) (cond b 0 n) ∷ rest (cond b xs ys) (cond b c d) (ages_after ages (cond b [] (a ∷ [])))
unfolding bare ages_after keys_after
stack_step i rest true o s n c d xs ys ages a = refl
stack_step i rest false o s n c d xs ys ages a = refl

-- the filler's rows are the operation rows, the end rows and the range rows
pub stack_filled :
    (cells : List Cell) (clock : ℕ) (ages : List ℕ) (t : ℕ) (is : List Input)
    → stack_from cells clock ages t is
    ≡ stack_ops cells clock ages is
    ++ (stack_ends (stack_final_cells cells clock is) ++ range_rows_from 1 t (stack_final_ages cells clock ages is))
unfolding stack_from stack_ops stack_final_cells stack_final_ages stack_row stack_cells stack_clock stack_age pop_row
stack_filled cells clock ages t [] = refl
stack_filled cells clock ages t (i ∷ is) =
    stack_step i (λ xs c looked. stack_from xs c looked t is) (is_op i.op Push) _ _ _ _ _ _ _ ages (clock - pop_time cells clock i)
    ∙ ap {B = List Row} (λ rows. stack_row cells clock ages i ∷ rows)
    (stack_filled (stack_cells cells clock i) (stack_clock clock i) (ages_after ages (stack_age cells clock i)) t is)

-- the operation rows are filled from the inputs,
pub stack_inputs : (cells : List Cell) (clock : ℕ) (ages : List ℕ) (is : List Input) → map input_of (stack_ops cells clock ages is) ≡ is
unfolding stack_ops stack_row filled_row input_of
stack_inputs cells clock ages [] = refl
stack_inputs cells clock ages (i ∷ is) = ap {B = List Input} (λ l. i ∷ l) (stack_inputs (stack_cells cells clock i) _ _ is)

-- one row for each
pub stack_length : (cells : List Cell) (clock : ℕ) (ages : List ℕ) (is : List Input) → length (stack_ops cells clock ages is) ≡ length is
unfolding stack_ops
stack_length cells clock ages [] = refl
stack_length cells clock ages (i ∷ is) = ap suc (stack_length (stack_cells cells clock i) _ _ is)

-- ages looked up one list after the other
ages_after_append : (ages xs ys : List ℕ) → ages_after ages (xs ++ ys) ≡ ages_after (ages_after ages xs) ys
unfolding ages_after keys_after
ages_after_append ages [] ys = refl
ages_after_append ages (x ∷ xs) ys = ages_after_append (x ∷ ages) xs ys

-- so the ages looked up in the end are those of the operations
final_ages :
    (cells : List Cell) (clock : ℕ) (ages : List ℕ) (is : List Input)
    → stack_final_ages cells clock ages is ≡ ages_after ages (stack_ages cells clock is)
unfolding stack_final_ages stack_ages ages_after keys_after
final_ages cells clock ages [] = refl
final_ages cells clock ages (i ∷ is) =
    final_ages (stack_cells cells clock i) (stack_clock clock i) (ages_after ages (stack_age cells clock i)) is
    ∙ sym (ages_after_append ages (stack_age cells clock i) (stack_ages (stack_cells cells clock i) (stack_clock clock i) is))

-- at most one age for each operation
age_length : (cells : List Cell) (clock : ℕ) (i : Input) → length (stack_age cells clock i) ≤ 1
unfolding stack_age
age_length cells clock i = go (is_op i.op Push)
  where
    go : (b : Bool) → length (cond {A = List ℕ} b [] ((clock - pop_time cells clock i) ∷ [])) ≤ 1
    go true = omega arith
    go false = omega arith

-- and so of all operations
ages_length : (cells : List Cell) (clock : ℕ) (is : List Input) → length (stack_ages cells clock is) ≤ length is
unfolding stack_ages
ages_length cells clock [] = omega arith
ages_length cells clock (i ∷ is) =
    let rest = stack_ages (stack_cells cells clock i) (stack_clock clock i) is in
    omega (arith, length-append (stack_age cells clock i) rest, age_length cells clock i, ages_length (stack_cells cells clock i) (stack_clock clock i) is)

-- what an end row adds at the back reads the height after the others
ends_added :
    (weight : Triple → ℕ) (i : ℕ) (rows : List Row) (row : Row)
    → total weight (cell_ends i (rows ++ row ∷ [])) ≡ total weight (cell_ends i rows) + weight (triple (i + length rows) row.old row.time)
unfolding total cell_ends
ends_added weight i [] row = let same : i ≡ i + 0 = omega arith in omega (arith, ap (λ (j : ℕ). weight (triple j row.old row.time)) same)
ends_added weight i (r ∷ rows) row =
    let same : suc i + length rows ≡ i + suc (length rows) = omega arith in
    omega (arith, ends_added weight (suc i) rows row, ap (λ (j : ℕ). weight (triple j row.old row.time)) same)

-- there are as many end rows as cells,
pub ends_length : (cells : List Cell) → length (stack_ends cells) ≡ length cells
unfolding stack_ends
ends_length [] = refl
ends_length (c ∷ cells) = omega (arith, length-append (stack_ends cells) (end_row no_content c.content c.time 0 ∷ []), ends_length cells)

-- and they read the records of the cells
ends_records : (weight : Triple → ℕ) (cells : List Cell) → total weight (cell_ends 1 (stack_ends cells)) ≡ total weight (stack_records cells)
unfolding total cell_ends stack_ends stack_records end_row
ends_records weight [] = refl
ends_records weight (c ∷ cells) =
    let same : 1 + length (stack_ends cells) ≡ suc (length cells) = omega (arith, ends_length cells) in
    omega (
      arith,
      ends_added weight 1 (stack_ends cells) (end_row no_content c.content c.time 0),
      ap (λ (j : ℕ). weight (triple j c.content c.time)) same,
      ends_records weight cells,
    )

-- what holds of the rows from some point on, after `up` executed pushes and `down` executed pops
record Filled (q t : ℕ) (cells : List Cell) (up down clock : ℕ) (ages : List ℕ) (is : List Input) : Type 0 where
  -- live cells and records written are the records read and those of the cells left
  balance : Balanced q cells up down (stack_ops cells clock ages is) (stack_records (stack_final_cells cells clock is))
  -- the depth
  depth : length cells + raised (stack_ops cells clock ages is) ≡ lowered (stack_ops cells clock ages is) + length (stack_final_cells cells clock is)
  -- the lookups are those of the ages
  lookups : pop_lookups q up (stack_ops cells clock ages is) ≡ honest_lookups ages (stack_ages cells clock is)
  -- which are in the range
  range : AgesIn t (stack_ages cells clock is)

-- what is to be shown of the operations from some point on
abbrev Complete : ℕ → ℕ → List Input → Type 0
Complete q t is =
    (cells : List Cell) (up down clock : ℕ) (ages : List ℕ)
    → length cells + down ≡ up
    → clock ≡ up + 1
    → up + length is ≤ t
    → Before clock cells
    → possible Stack (stacked cells) is ≡ true
    → Filled q t cells up down clock ages is

-- an age is a difference that does not wrap
age_exact : (q up clock time : ℕ) → clock ≡ up + 1 → clock < q → time < clock → minus q (up + 1) time ≡ clock - time
age_exact q up clock time e below earlier =
    age_of_earlier q (up + 1) time (omega arith) (omega arith) ∙ ap (λ (c : ℕ). c - time) (sym e)

-- a lookup that the earlier ages give its version, before such lookups
lookup_cons :
    (a b : ℕ) (ages rest : List ℕ) (ls : List Lookup) → a ≡ b → ls ≡ honest_lookups (b ∷ ages) rest
    → record { age = a; version = occurrences b ages } ∷ ls ≡ honest_lookups ages (b ∷ rest)
unfolding honest_lookups honest
lookup_cons a b ages rest ls e es i = record { age = e i; version = occurrences b ages } ∷ es i

-- an executed push: its record is that of the top cell afterwards
complete_push : (q t : ℕ) (i : Input) (is : List Input) → t + 1 < q → Complete q t is → Complete q t (input_at Push 1 i ∷ is)
unfolding input_at is_op op_code raise_by lower_by raised lowered total push_write push_writes pop_read pop_reads pop_lookup pop_lookups operation_of all_fit fits after impossible input_operation possible bare filled_row stack_age stack_row stack_cells stack_clock stack_ops stack_ages stack_final_cells stack_records stacked cell ages_after keys_after
complete_push q t i is room rest cells up down clock ages depth ticks left before can =
    let earlier : Before (clock + 1) (cell i.value clock ∷ cells) = (omega arith, before_later clock (clock + 1) cells (omega arith) before) in
    let r = rest (cell i.value clock ∷ cells) (up + 1) (down + 0) (clock + 1) ages (omega arith) (omega arith) (omega arith) earlier can in
    let height = minus_exact q (up + 1) down (suc (length cells)) (omega arith) (omega arith) in
    record {
      balance = λ weight. omega (arith, r.balance weight, ap₂ (λ (h c : ℕ). weight (triple h i.value c)) height (sym ticks));
      depth = omega (arith, r.depth);
      lookups = r.lookups;
      range = r.range;
    }

-- a skipped push
complete_skipped_push : (q t : ℕ) (i : Input) (is : List Input) → Complete q t is → Complete q t (input_at Push 0 i ∷ is)
unfolding input_at is_op op_code raise_by lower_by raised lowered push_write push_writes pop_read pop_reads pop_lookup pop_lookups operation_of all_fit fits after impossible input_operation possible bare filled_row stack_age stack_row stack_cells stack_clock stack_ops stack_ages stack_final_cells ages_after keys_after
complete_skipped_push q t i is rest cells up down clock ages depth ticks left before can =
    let earlier = before_later clock (clock + 0) cells (omega arith) before in
    let r = rest cells (up + 0) (down + 0) (clock + 0) ages (omega arith) (omega arith) (omega arith) earlier can in
    record { balance = r.balance; depth = omega (arith, r.depth); lookups = r.lookups; range = r.range }

-- a skipped pop looks up the age 1
complete_skipped_pop : (q t : ℕ) (i : Input) (is : List Input) → t + 1 < q → Complete q t is → Complete q t (input_at Pop 0 i ∷ is)
unfolding input_at is_op op_code raise_by lower_by raised lowered push_write push_writes pop_read pop_reads pop_lookup pop_lookups operation_of all_fit fits after impossible input_operation possible bare filled_row stack_age stack_row stack_cells stack_clock stack_ops stack_ages stack_final_cells ages_after keys_after pop_time
complete_skipped_pop q t i is room rest cells up down clock ages depth ticks left before can =
    let time = pop_time cells clock (input_at Pop 0 i) in
    let age = clock - time in
    let r = rest cells (up + 0) (down + 0) clock (age ∷ ages) (omega arith) (omega arith) (omega arith) before can in
    record {
      balance = r.balance;
      depth = omega (arith, r.depth);
      lookups = lookup_cons _ age ages _ _ (age_exact q up clock time ticks (omega arith) (omega arith)) r.lookups;
      range = ((omega arith, omega arith), r.range);
    }

-- an executed pop: it reads the record of the top cell
complete_pop : (q t : ℕ) (i : Input) (is : List Input) → t + 1 < q → Complete q t is → Complete q t (input_at Pop 1 i ∷ is)
unfolding input_at is_op op_code raise_by lower_by raised lowered total push_write push_writes pop_read pop_reads pop_lookup pop_lookups operation_of all_fit input_operation possible bare filled_row stack_age stack_row stack_cells stack_clock stack_ops stack_ages stack_final_cells stack_records ages_after keys_after pop_time top_cell cell_at
complete_pop q t i is room rest [] up down clock ages depth ticks left before can = absurd (false≢true (rw pop_impossible at can))
complete_pop q t i is room rest (c ∷ cells) up down clock ages depth ticks left before can =
    let age = clock - c.time in
    let can-go-on = rw (pop_possible c cells no_content, pop_after c cells no_content) at can in
    let r = rest cells (up + 0) (down + 1) clock (age ∷ ages) (omega arith) (omega arith) (omega arith) before.1 can-go-on in
    let height = minus_exact q up down (suc (length cells)) (omega arith) (omega arith) in
    record {
      balance = λ weight. omega (arith, r.balance weight, ap (λ (h : ℕ). weight (triple h c.content c.time)) height);
      depth = omega (arith, r.depth);
      lookups = lookup_cons _ age ages _ _ (age_exact q up clock c.time ticks (omega arith) before.0) r.lookups;
      range = ((omega (arith, before.0), omega arith), r.range);
    }

-- all operations from some point on
complete_from : (q t : ℕ) (is : List Input) → t + 1 < q → Inputs Stack is → Complete q t is
unfolding raised lowered total push_writes pop_reads pop_lookups all_fit stack_ops stack_ages stack_final_cells ops_due honest_lookups honest
complete_from q t [] room due =
    λ cells up down clock ages depth ticks left before can.
    record { balance = λ weight. omega arith; depth = omega arith; lookups = refl; range = tt }
complete_from q t (i ∷ is) room due =
    let rest : Complete q t is = complete_from q t is room due.2 in
    input_cases (λ (j : Input). Complete q t (j ∷ is)) Push Pop i
    (complete_push q t i is room rest)
    (complete_skipped_push q t i is rest)
    (complete_pop q t i is room rest)
    (complete_skipped_pop q t i is room rest)
    due.0
    due.1

-- the filler's operation rows, end rows and range rows
abbrev pub stack_op_rows : List Input → List Row
stack_op_rows is = stack_ops [] 1 [] is

abbrev pub stack_end_rows : List Input → List Row
stack_end_rows is = stack_ends (stack_final_cells [] 1 is)

abbrev pub stack_range_rows : ℕ → List Input → List Row
stack_range_rows t is = range_rows_from 1 t (stack_final_ages [] 1 [] is)

-- all operations
complete : (q t : ℕ) (is : List Input) → t + 1 < q → length is ≡ t → Inputs Stack is → possible Stack [] is ≡ true → Filled q t [] 0 0 1 [] is
unfolding stacked
complete q t is room count due can =
    complete_from q t is room due [] 0 0 1 [] (omega arith) (omega arith) (omega arith) tt can

-- Where every operation is possible: the records written are those read and those of the end rows,
pub stack_balance :
    (q t : ℕ) (is : List Input) → t + 1 < q → length is ≡ t → Inputs Stack is → possible Stack [] is ≡ true
    → EquallyOften (push_writes q 0 0 (stack_op_rows is)) (pop_reads q 0 0 (stack_op_rows is) ++ cell_ends 1 (stack_end_rows is))
unfolding total stack_records
stack_balance q t is room count due can weight =
    omega (
      arith,
      (complete q t is room count due can).balance weight,
      total_append weight (pop_reads q 0 0 (stack_op_rows is)) (cell_ends 1 (stack_end_rows is)),
      ends_records weight (stack_final_cells [] 1 is),
    )

-- the ages are in the range,
pub stack_in_range :
    (q t : ℕ) (is : List Input) → t + 1 < q → length is ≡ t → Inputs Stack is → possible Stack [] is ≡ true
    → InRange t (pop_lookups q 0 (stack_op_rows is))
stack_in_range q t is room count due can =
    let filled = complete q t is room count due can in
    subst (InRange t) (sym filled.lookups) (lookups_in_range t [] (stack_ages [] 1 is) filled.range)

-- the range balances,
pub stack_range :
    (q t : ℕ) (is : List Input) → t + 1 < q → length is ≡ t → Inputs Stack is → possible Stack [] is ≡ true
    → EquallyOften
    (range_setup 1 t ++ map (range_write q) (pop_lookups q 0 (stack_op_rows is)))
    (map range_read (pop_lookups q 0 (stack_op_rows is)) ++ range_ends 1 (stack_range_rows t is))
stack_range q t is room count due can =
    let filled = complete q t is room count due can in
    let few : length (stack_ages [] 1 is) < q = omega (arith, ages_length [] 1 is) in
    rw (filled.lookups, final_ages [] 1 [] is) (range_complete q t (stack_ages [] 1 is) filled.range few)

-- the depth is not below 0,
pub stack_not_below :
    (is : List Input) → Inputs Stack is → possible Stack [] is ≡ true → lowered (stack_op_rows is) ≤ raised (stack_op_rows is)
stack_not_below is due can =
    let t = length is in
    omega (arith, (complete (t + 2) t is (omega arith) refl due can).depth)

-- and there are as many end rows as the depth
pub stack_ends_due :
    (is : List Input) → Inputs Stack is → possible Stack [] is ≡ true
    → length (stack_end_rows is) ≡ raised (stack_op_rows is) - lowered (stack_op_rows is)
stack_ends_due is due can =
    let t = length is in
    omega (arith, (complete (t + 2) t is (omega arith) refl due can).depth, ends_length (stack_final_cells [] 1 is))

-- of rows whose operations fit: they are possible, the filled rows have the same operations, and no
-- more cells are taken off than there are
record Refilled (cells : List Cell) (clock : ℕ) (ages : List ℕ) (rows : List Row) : Type 0 where
  can : possible Stack (stacked cells) (map input_of rows) ≡ true
  kept : map (operation_of Stack) (stack_ops cells clock ages (map input_of rows)) ≡ map (operation_of Stack) rows
  depth : lowered rows ≤ length cells + raised rows

-- what is to be shown of the rows from some point on
abbrev Refills : List Row → Type 0
Refills rows =
    (cells : List Cell) (clock : ℕ) (ages : List ℕ) → all_fit (stacked cells) (map (operation_of Stack) rows) ≡ true
    → Refilled cells clock ages rows

-- an executed push
refills_push : (row : Row) (rows : List Row) → Refills rows → Refills (row_at Push 1 row ∷ rows)
unfolding row_at input_of is_op op_code raise_by lower_by raised lowered operation_of all_fit fits after impossible input_operation possible bare filled_row stack_age stack_row stack_cells stack_clock stack_ops stacked cell ages_after keys_after
refills_push row rows rest cells clock ages fit =
    let r = rest (cell row.value clock ∷ cells) (clock + 1) ages fit in
    record { can = r.can; kept = ap {B = List Operation} (λ l. push row.value ∷ l) r.kept; depth = omega (arith, r.depth) }

-- a skipped push
refills_skipped_push : (row : Row) (rows : List Row) → Refills rows → Refills (row_at Push 0 row ∷ rows)
unfolding row_at input_of is_op op_code raise_by lower_by raised lowered operation_of all_fit fits after impossible input_operation possible bare filled_row stack_age stack_row stack_cells stack_clock stack_ops ages_after keys_after
refills_skipped_push row rows rest cells clock ages fit =
    let r = rest cells (clock + 0) ages fit in
    record { can = r.can; kept = ap {B = List Operation} (λ l. skipped_push row.value ∷ l) r.kept; depth = omega (arith, r.depth) }

-- an executed pop: its old is the content of the top cell
refills_pop : (row : Row) (rows : List Row) → Refills rows → Refills (row_at Pop 1 row ∷ rows)
unfolding row_at input_of is_op op_code raise_by lower_by raised lowered operation_of all_fit input_operation possible bare filled_row stack_age stack_row stack_cells stack_clock stack_ops ages_after keys_after pop_time top_cell cell_at
refills_pop row rows rest [] clock ages fit = absurd (false≢true (rw (pop_unfit row.old) at fit))
refills_pop row rows rest (c ∷ cells) clock ages fit =
    let both = (and-eq-true_iff (same_content row.old c.content) _).0 (rw (pop_top c cells row.old, pop_after c cells row.old) at fit) in
    let r = rest cells clock ((clock - c.time) ∷ ages) both.1 in
    record {
      can = rw (pop_possible c cells no_content, pop_after c cells no_content) r.can;
      kept = ap₂ {C = List Operation} (λ o l. pop o ∷ l) (sym (same_content_lem row.old c.content both.0)) r.kept;
      depth = omega (arith, r.depth);
    }

-- a skipped pop
refills_skipped_pop : (row : Row) (rows : List Row) → Refills rows → Refills (row_at Pop 0 row ∷ rows)
unfolding row_at input_of is_op op_code raise_by lower_by raised lowered operation_of all_fit fits after impossible input_operation possible bare filled_row stack_age stack_row stack_cells stack_clock stack_ops ages_after keys_after pop_time
refills_skipped_pop row rows rest cells clock ages fit =
    let r = rest cells clock ((clock - (clock - 1)) ∷ ages) fit in
    record { can = r.can; kept = ap {B = List Operation} (λ l. skipped_pop ∷ l) r.kept; depth = omega (arith, r.depth) }

-- all rows from some point on
refills_from : (rows : List Row) → Ops Stack rows → Refills rows
unfolding possible stack_ops ops_due raised lowered
refills_from [] due = λ cells clock ages fit. record { can = refl; kept = refl; depth = omega arith }
refills_from (row ∷ rows) due =
    let rest : Refills rows = refills_from rows due.2 in
    row_cases (λ (r : Row). Refills (r ∷ rows)) Push Pop row
    (refills_push row rows rest)
    (refills_skipped_push row rows rest)
    (refills_pop row rows rest)
    (refills_skipped_pop row rows rest)
    due.0
    due.1

-- a right trace is one that the filler fills,
pub stack_right_possible :
    (rows : List Row) → Ops Stack rows → all_fit [] (map (operation_of Stack) rows) ≡ true → possible Stack [] (map input_of rows) ≡ true
unfolding stacked
stack_right_possible rows due fit = (refills_from rows due [] 1 [] fit).can

-- with the same operations
pub stack_right_operations :
    (rows : List Row) → Ops Stack rows → all_fit [] (map (operation_of Stack) rows) ≡ true
    → map (operation_of Stack) (stack_op_rows (map input_of rows)) ≡ map (operation_of Stack) rows
unfolding stacked
stack_right_operations rows due fit = (refills_from rows due [] 1 [] fit).kept

-- and with a depth that is not below 0
pub stack_right_depth :
    (rows : List Row) → Ops Stack rows → all_fit [] (map (operation_of Stack) rows) ≡ true → lowered rows ≤ raised rows
unfolding stacked
stack_right_depth rows due fit = omega (arith, (refills_from rows due [] 1 [] fit).depth)
