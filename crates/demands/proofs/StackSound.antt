-- The stack of document 01, from equal lists to a right trace: where the ages that pops look up lie in the range, and the records that
-- pushes write are the records read and ended, every operation fits. The records at the end are arbitrary, and nothing is asked of the depth.
-- The induction goes over the operations, with the live cells: these and the writes to come hold the same records as the reads to come and
-- the ends. The record that an executed pop reads has a time that no write to come has, and the height of the top: it is the top's record.
-- Assumes nothing.
use Prim.Native.Nat.{ℕ, suc, ◌+◌, ◌*◌, ◌≤◌, ◌<◌}
use mathlib.Core.Path.{◌≡◌, refl, ap}
use mathlib.Core.Bool.{true}
use mathlib.Core.List.{List, [], ◌∷◌, ◌++◌, map}
use native.Mathlib.Omega.{arith}
use lib.ListN.{length}
use Rattle.algebra.specs.Modulo.{minus}
use Rattle.algebra.specs.Multiset.{total, EquallyOften}
use Rattle.algebra.proofs.Multiset.{total_append}
use Rattle.memory.specs.declared.Memory.TheVariants.{Stack}
use Rattle.memory.specs.declared.Op.TheVariants.{Push, Pop}
use Rattle.memory.specs.declared.Row.{Row}
use Rattle.memory.specs.Names.{op_code, is_op}
use Rattle.memory.specs.Rows.{raise_by, lower_by, ops_due}
use Rattle.memory.specs.Equations.{Triple, triple, push_write, push_writes, pop_read, pop_reads, pop_lookup, pop_lookups}
use Rattle.memory.proofs.Content.{content_same}
use Rattle.runs.specs.Plain.{operation_of, all_fit, fits, after}
use Rattle.runs.specs.Honest.{Cell, cell}
use Rattle.runs.proofs.Ages.{InRange}
use Rattle.runs.proofs.Clock.{age_of_later}
use Rattle.memory.proofs.Operations.{Ops, row_at, row_cases}
use Rattle.runs.proofs.Differences.{minus_exact}
use Rattle.demands.proofs.Records.{is_record, record_itself, counted_parts, not_counted}
use Rattle.runs.proofs.StackCells.{stack_records, Balanced, stacked, pop_top, pop_after}

-- a record at a height above the cells is none of theirs
records_below : (r : Triple) (cells : List Cell) → length cells < r.x → total (is_record r) (stack_records cells) ≡ 0
unfolding total stack_records triple
records_below r [] h = refl
records_below r (c ∷ cells) h =
    omega (arith, not_counted r (triple (suc (length cells)) c.content c.time) (λ p. omega (arith, p.0)), records_below r cells (omega arith))

-- a record at the height of the top that is one of the cells' is the top's
record_of_top :
    (r : Triple) (c : Cell) (cells : List Cell) → r.x ≡ suc (length cells) → 0 < total (is_record r) (stack_records (c ∷ cells))
    → (r.y ≡ c.content) × (r.z ≡ c.time)
unfolding total stack_records triple
record_of_top r c cells e h =
    let p = counted_parts r (triple (suc (length cells)) c.content c.time) (omega (arith, records_below r cells (omega arith))) in
    (p.1, p.2)

-- a record whose time is that of no write to come is none of them
abbrev Apart : ℕ → Triple → List Row → Type 0
Apart q r ops =
    (up down : ℕ) → (suc up ≤ r.z → r.z ≤ up + length ops → ⊥) → total (is_record r) (push_writes q up down ops) ≡ 0

-- by cases on the operation
later_pushes_apart : (q : ℕ) (r : Triple) (ops : List Row) → Ops Stack ops → Apart q r ops
unfolding row_at is_op op_code raise_by lower_by ops_due total triple push_write push_writes
later_pushes_apart q r [] due = λ up down apart. refl
later_pushes_apart q r (row ∷ rows) due =
    let rest : Apart q r rows = later_pushes_apart q r rows due.2 in
    row_cases (λ (s : Row). Apart q r (s ∷ rows)) Push Pop row
    (λ up down apart.
    omega (
      arith,
      not_counted r (triple (minus q (up + 1) down) row.value (up + 1)) (λ p. apart (omega (arith, p.2)) (omega (arith, p.2))),
      rest (up + 1) (down + 0) (λ low high. apart (omega arith) (omega arith)),
    ))
    (λ up down apart. rest (up + 0) (down + 0) (λ low high. apart (omega arith) (omega arith)))
    (λ up down apart. rest (up + 0) (down + 1) (λ low high. apart (omega arith) (omega arith)))
    (λ up down apart. rest (up + 0) (down + 0) (λ low high. apart (omega arith) (omega arith)))
    due.0
    due.1

-- what is to be shown of the operations from some point on, after `up` executed pushes and `down` executed pops
abbrev Sound : ℕ → ℕ → List Row → Type 0
Sound q t ops =
    (cells : List Cell) (up down : ℕ) (ends : List Triple)
    → length cells + down ≡ up
    → up + length ops ≤ t
    → InRange t (pop_lookups q up ops)
    → Balanced q cells up down ops ends
    → all_fit (stacked cells) (map (operation_of Stack) ops) ≡ true

-- an executed push
sound_push : (q t : ℕ) (row : Row) (rows : List Row) → t + 1 < q → Sound q t rows → Sound q t (row_at Push 1 row ∷ rows)
unfolding row_at is_op op_code raise_by lower_by total push_write push_writes pop_read pop_reads pop_lookup pop_lookups operation_of all_fit fits after stack_records stacked cell
sound_push q t row rows room rest cells up down ends depth left ages same =
    let height = minus_exact q (up + 1) down (suc (length cells)) (omega arith) (omega arith) in
    rest (cell row.value (up + 1) ∷ cells) (up + 1) (down + 0) ends (omega arith) (omega arith) ages
    (λ weight. omega (arith, same weight, ap (λ (h : ℕ). weight (triple h row.value (up + 1))) height))

-- a skipped push
sound_skipped_push : (q t : ℕ) (row : Row) (rows : List Row) → Sound q t rows → Sound q t (row_at Push 0 row ∷ rows)
unfolding row_at is_op op_code raise_by lower_by push_write push_writes pop_read pop_reads pop_lookup pop_lookups operation_of all_fit fits after
sound_skipped_push q t row rows rest cells up down ends depth left ages same =
    rest cells (up + 0) (down + 0) ends (omega arith) (omega arith) ages same

-- a skipped pop
sound_skipped_pop : (q t : ℕ) (row : Row) (rows : List Row) → Sound q t rows → Sound q t (row_at Pop 0 row ∷ rows)
unfolding row_at is_op op_code raise_by lower_by push_write push_writes pop_read pop_reads pop_lookup pop_lookups operation_of all_fit fits after
sound_skipped_pop q t row rows rest cells up down ends depth left ages same =
    rest cells (up + 0) (down + 0) ends (omega arith) (omega arith) ages.2 same

-- the record that an executed pop reads is that of a live cell
pop_reads_live :
    (q t : ℕ) (row : Row) (rows : List Row) → 2 * t ≤ q → Ops Stack rows
    → (cells : List Cell) (up down : ℕ) (ends : List Triple)
    → up + length (row ∷ rows) ≤ t
    → 1 ≤ minus q (up + 1) row.time
    → minus q (up + 1) row.time ≤ t
    → Balanced q cells up down (row_at Pop 1 row ∷ rows) ends
    → 0 < total (is_record (triple (minus q up down) row.old row.time)) (stack_records cells)
unfolding row_at is_op op_code raise_by lower_by total triple push_write push_writes pop_read pop_reads
pop_reads_live q t row rows room due cells up down ends left low high same =
    let r : Triple = triple (minus q up down) row.old row.time in
    let apart =
    later_pushes_apart q r rows due (up + 0) (down + 1)
    (λ later near. age_of_later q t (up + 1) row.time room (omega arith) (omega arith) (omega arith) low high) in
    omega (arith, same (is_record r), record_itself r, apart)

-- an executed pop
sound_pop :
    (q t : ℕ) (row : Row) (rows : List Row) → 2 * t ≤ q → t + 1 < q → Ops Stack rows → Sound q t rows → Sound q t (row_at Pop 1 row ∷ rows)
unfolding row_at is_op op_code raise_by lower_by total triple push_write push_writes pop_read pop_reads pop_lookup pop_lookups operation_of all_fit stack_records
sound_pop q t row rows wide room due rest [] up down ends depth left ages same =
    absurd (omega (arith, pop_reads_live q t row rows wide due [] up down ends left ages.0 ages.1 same))
sound_pop q t row rows wide room due rest (c ∷ cells) up down ends depth left ages same =
    let height = minus_exact q up down (suc (length cells)) (omega arith) (omega arith) in
    let live = pop_reads_live q t row rows wide due (c ∷ cells) up down ends left ages.0 ages.1 same in
    let top = record_of_top (triple (minus q up down) row.old row.time) c cells height live in
    rw (pop_top c cells row.old, content_same row.old c.content top.0, pop_after c cells row.old)
    (rest cells (up + 0) (down + 1) ends (omega arith) (omega arith) ages.2
    (λ weight. omega (arith, same weight, same_record weight height top.0 top.1)))
  where
    same_record :
        (weight : Triple → ℕ) → minus q up down ≡ suc (length cells) → row.old ≡ c.content → row.time ≡ c.time
        → weight (triple (minus q up down) row.old row.time) ≡ weight (triple (suc (length cells)) c.content c.time)
    same_record weight h o s = ap weight (λ i. triple (h i) (o i) (s i))

-- all operations from some point on
sound_from : (q t : ℕ) (ops : List Row) → 2 * t ≤ q → t + 1 < q → Ops Stack ops → Sound q t ops
unfolding all_fit ops_due
sound_from q t [] wide room due = λ cells up down ends depth left ages same. refl
sound_from q t (row ∷ rows) wide room due =
    let rest : Sound q t rows = sound_from q t rows wide room due.2 in
    row_cases (λ (r : Row). Sound q t (r ∷ rows)) Push Pop row
    (sound_push q t row rows room rest)
    (sound_skipped_push q t row rows rest)
    (sound_pop q t row rows wide room due.2 rest)
    (sound_skipped_pop q t row rows rest)
    due.0
    due.1

-- where the ages lie in the range, and the records written are those read and ended, every operation fits
pub stack_sound :
    (q t : ℕ) (ops : List Row) (ends : List Triple)
    → Ops Stack ops
    → 2 * t ≤ q
    → t + 1 < q
    → length ops ≡ t
    → InRange t (pop_lookups q 0 ops)
    → EquallyOften (push_writes q 0 0 ops) (pop_reads q 0 0 ops ++ ends)
    → all_fit [] (map (operation_of Stack) ops) ≡ true
unfolding total stack_records stacked
stack_sound q t ops ends due wide room count ages same =
    sound_from q t ops wide room due [] 0 0 ends (omega arith) (omega arith) ages
    (λ weight. omega (arith, same weight, total_append weight (pop_reads q 0 0 ops) ends))
