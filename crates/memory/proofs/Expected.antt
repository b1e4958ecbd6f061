-- What the rows of one phase emit: the lists of document 01's equations, from the place of the phase's first row and the executed counts before it on.
-- Assumes nothing.
use Prim.Native.Nat.{ℕ, suc, ◌+◌, ◌-◌, ◌≤◌}
use native.Mathlib.Numerals.{add-one}
use native.Mathlib.Omega.{arith}
use mathlib.Core.Path.{◌≡◌, refl, sym, ◌∙◌, ap, ap₂, subst}
use mathlib.Core.Bool.{true}
use mathlib.Core.List.{List, [], ◌∷◌, ◌++◌, map}
use lib.ListN.{length}
use Rattle.memory.specs.declared.Memory.{Memory}
use Rattle.memory.specs.declared.Memory.TheVariants.{Ram, Rom, Set, Stack, Queue}
use Rattle.memory.specs.declared.Op.{Op}
use Rattle.memory.specs.declared.Op.TheVariants.{Init, Access, Look, Member, Push, Pop, Enqueue, Dequeue, End, Range}
use Rattle.memory.specs.declared.Phase.{Phase}
use Rattle.memory.specs.declared.Phase.TheVariants.{Starting, Operating, Ending, Ranging, Over}
use Rattle.memory.specs.declared.Row.{Row}
use Rattle.memory.specs.Names.{op_code, is_op}
use Rattle.memory.specs.Rows.{raise_by, lower_by, raised, lowered, ends_due, ranges_due, phase_at, ops_due, op_in}
use Rattle.memory.specs.Equations.{Lists, init_write, init_writes, look_read, look_write, rom_end, rom_ends, set_init, member_read, member_write, range_set, range_setup, range_read, range_write, range_end, range_ends, access_read, access_writes, access_lookups, cell_end, cell_ends, push_write, push_writes, pop_read, pop_reads, pop_lookup, pop_lookups, enqueues, dequeues, end_olds, shuffle_lists}
use Rattle.memory.specs.Step.{ram_clock, end_place, range_place, lookups_by, written_by, read_by, supplied_by, looked_by, enqueued_by, dequeued_by}
use Rattle.memory.proofs.Counted.{length_snoc, raised_snoc, lowered_snoc}
use Rattle.memory.proofs.Due.{begins, spans, phase_in_span, op_of_one, op_of_two, op_of_none}
use Rattle.memory.proofs.Emitted.{context_of, none, join, emits, emitted}
use Rattle.memory.proofs.Placed.{Each, Placed}

-- the lists of rows in a phase, the first of which is number k of the phase and comes after `up` executed pushes and `down` executed pops
unfoldable pub expected : ℕ → Memory → Phase → ℕ → ℕ → ℕ → List Row → Lists
expected q Ram Starting k up down rows = shuffle_lists (init_writes k rows) []
expected q Rom Starting k up down rows = shuffle_lists (init_writes k rows) []
expected q Set Starting k up down rows = shuffle_lists (map set_init rows) []
expected q Stack Starting k up down rows = none
expected q Queue Starting k up down rows = none
expected q Ram Operating k up down rows = record {
  written = access_writes (suc k) rows;
  read = map access_read rows;
  supplied = map (range_write q) (access_lookups q (suc k) rows);
  looked = map range_read (access_lookups q (suc k) rows);
  enqueued = [];
  dequeued = [];
}
expected q Rom Operating k up down rows = shuffle_lists (map (look_write q) rows) (map look_read rows)
expected q Set Operating k up down rows = shuffle_lists (map (member_write q) rows) (map member_read rows)
expected q Stack Operating k up down rows = record {
  written = push_writes q up down rows;
  read = pop_reads q up down rows;
  supplied = map (range_write q) (pop_lookups q up rows);
  looked = map range_read (pop_lookups q up rows);
  enqueued = [];
  dequeued = [];
}
expected q Queue Operating k up down rows =
    record { written = []; read = []; supplied = []; looked = []; enqueued = enqueues rows; dequeued = dequeues rows }
expected q Ram Ending k up down rows = shuffle_lists [] (cell_ends k rows)
expected q Rom Ending k up down rows = shuffle_lists [] (rom_ends k rows)
expected q Set Ending k up down rows = shuffle_lists [] (map member_read rows)
expected q Stack Ending k up down rows = shuffle_lists [] (cell_ends (suc k) rows)
expected q Queue Ending k up down rows =
    record { written = []; read = []; supplied = []; looked = []; enqueued = []; dequeued = end_olds rows }
expected q m Ranging k up down rows = record {
  written = [];
  read = [];
  supplied = range_setup (suc k) (length rows);
  looked = range_ends (suc k) rows;
  enqueued = [];
  dequeued = [];
}
expected q m Over k up down rows = none

-- no rows give no lists
expected_none : (q : ℕ) (m : Memory) (ph : Phase) (k up down : ℕ) → expected q m ph k up down [] ≡ none
unfolding expected none shuffle_lists init_writes access_writes access_lookups push_writes pop_reads pop_lookups enqueues dequeues cell_ends rom_ends end_olds range_setup range_ends
expected_none q Ram Starting k up down = refl
expected_none q Rom Starting k up down = refl
expected_none q Set Starting k up down = refl
expected_none q Stack Starting k up down = refl
expected_none q Queue Starting k up down = refl
expected_none q Ram Operating k up down = refl
expected_none q Rom Operating k up down = refl
expected_none q Set Operating k up down = refl
expected_none q Stack Operating k up down = refl
expected_none q Queue Operating k up down = refl
expected_none q Ram Ending k up down = refl
expected_none q Rom Ending k up down = refl
expected_none q Set Ending k up down = refl
expected_none q Stack Ending k up down = refl
expected_none q Queue Ending k up down = refl
expected_none q m Ranging k up down = refl
expected_none q m Over k up down = refl

-- one row more at the front: what it emits in its context, and what the rest give
abbrev Continues : ℕ → Memory → ℕ → ℕ → Phase → ℕ → List Row → Row → List Row → Type 0
Continues q m n t ph k past row rows =
    join (emits q (context_of q m n t past) row)
    (expected q m ph (suc k) (raised past + raise_by row.op row.guard) (lowered past + lower_by row.op row.guard) rows)
    ≡ expected q m ph k (raised past) (lowered past) (row ∷ rows)

-- a row with another op in its place
abbrev with_op : Row → Op → Row
with_op row o =
    record { op = o; guard = row.guard; addr = row.addr; value = row.value; old = row.old; time = row.time; version = row.version }

-- what holds of a row with the op x holds of a row whose op is x
of_op : (q : ℕ) (m : Memory) (n t : ℕ) (ph : Phase) (k : ℕ) (past : List Row) (row : Row) (rows : List Row) (x : Op) → row.op ≡ x
    → Continues q m n t ph k past (with_op row x) rows → Continues q m n t ph k past row rows
of_op q m n t ph k past row rows x o = subst (λ (y : Op). Continues q m n t ph k past (with_op row y) rows) (sym o)

-- an init row
continues_init : (q : ℕ) (m : Memory) (n t k : ℕ) (past : List Row) (row : Row) (rows : List Row) → length past ≡ k
    → Continues q m n t Starting k past (with_op row Init) rows
unfolding expected none join emits context_of is_op op_code shuffle_lists init_writes written_by read_by supplied_by looked_by lookups_by enqueued_by dequeued_by pop_lookup
continues_init q Ram n t k past row rows e = ap (λ (i : ℕ). shuffle_lists (init_write i row ∷ init_writes (suc k) rows) []) e
continues_init q Rom n t k past row rows e = ap (λ (i : ℕ). shuffle_lists (init_write i row ∷ init_writes (suc k) rows) []) e
continues_init q Set n t k past row rows e = refl
continues_init q Stack n t k past row rows e = refl
continues_init q Queue n t k past row rows e = refl

-- an access of a ram, a look of a rom, a member of a set
continues_access : (q n t k : ℕ) (past : List Row) (row : Row) (rows : List Row) → length past + 1 - n ≡ suc k
    → Continues q Ram n t Operating k past (with_op row Access) rows
unfolding expected join emits context_of is_op op_code access_writes access_lookups ram_clock written_by read_by supplied_by looked_by lookups_by enqueued_by dequeued_by
continues_access q n t k past row rows e = rw e

continues_look : (q n t k : ℕ) (past : List Row) (row : Row) (rows : List Row) → Continues q Rom n t Operating k past (with_op row Look) rows
unfolding expected join emits context_of is_op op_code shuffle_lists written_by read_by supplied_by looked_by lookups_by enqueued_by dequeued_by pop_lookup
continues_look q n t k past row rows = refl

continues_member : (q n t k : ℕ) (past : List Row) (row : Row) (rows : List Row) → Continues q Set n t Operating k past (with_op row Member) rows
unfolding expected join emits context_of is_op op_code shuffle_lists written_by read_by supplied_by looked_by lookups_by enqueued_by dequeued_by pop_lookup
continues_member q n t k past row rows = refl

-- a push or pop of a stack, an enqueue or dequeue of a queue
continues_stack : (q n t k : ℕ) (past : List Row) (row : Row) (rows : List Row) → op_in row.op (Push ∷ Pop ∷ []) ≡ true
    → Continues q Stack n t Operating k past row rows
unfolding expected join emits context_of is_op op_code push_write push_writes pop_read pop_reads pop_lookup pop_lookups written_by read_by supplied_by looked_by lookups_by enqueued_by dequeued_by
continues_stack q n t k past row rows o =
    op_of_two (λ (x : Op). Continues q Stack n t Operating k past (with_op row x) rows) row.op Push Pop o refl refl

continues_queue : (q n t k : ℕ) (past : List Row) (row : Row) (rows : List Row) → op_in row.op (Enqueue ∷ Dequeue ∷ []) ≡ true
    → Continues q Queue n t Operating k past row rows
unfolding expected join emits context_of is_op op_code enqueues dequeues written_by read_by supplied_by looked_by lookups_by enqueued_by dequeued_by pop_lookup
continues_queue q n t k past row rows o =
    op_of_two (λ (x : Op). Continues q Queue n t Operating k past (with_op row x) rows) row.op Enqueue Dequeue o refl refl

-- an end row
continues_end : (q : ℕ) (m : Memory) (n t k : ℕ) (past : List Row) (row : Row) (rows : List Row) → length past - (n + t) ≡ k
    → Continues q m n t Ending k past (with_op row End) rows
unfolding expected join emits context_of is_op op_code shuffle_lists cell_ends rom_ends end_olds end_place written_by read_by supplied_by looked_by lookups_by enqueued_by dequeued_by pop_lookup
continues_end q Ram n t k past row rows e = ap (λ (i : ℕ). shuffle_lists [] (cell_end i row ∷ cell_ends (suc k) rows)) e
continues_end q Rom n t k past row rows e = ap (λ (i : ℕ). shuffle_lists [] (rom_end i row ∷ rom_ends (suc k) rows)) e
continues_end q Set n t k past row rows e = refl
continues_end q Stack n t k past row rows e =
    ap (λ (i : ℕ). shuffle_lists [] (cell_end i row ∷ cell_ends (suc (suc k)) rows)) (ap (λ (i : ℕ). i + 1) e ∙ add-one k)
continues_end q Queue n t k past row rows e = refl

-- a range row: the number i and its end, before those of the rows that follow
ranged : ℕ → ℕ → Row → List Row → Lists
ranged k i row rows = record {
  written = [];
  read = [];
  supplied = range_set i ∷ range_setup (suc (suc k)) (length rows);
  looked = range_end i row ∷ range_ends (suc (suc k)) rows;
  enqueued = [];
  dequeued = [];
}

continues_range : (q : ℕ) (m : Memory) (n t k : ℕ) (past : List Row) (row : Row) (rows : List Row)
    → length past - (n + t + ends_due m n (raised past) (lowered past)) + 1 ≡ suc k → Continues q m n t Ranging k past (with_op row Range) rows
unfolding ranged expected join emits context_of is_op op_code range_setup range_ends range_place written_by read_by supplied_by looked_by lookups_by enqueued_by dequeued_by pop_lookup
continues_range q Ram n t k past row rows e = ap (λ (i : ℕ). ranged k i row rows) e
continues_range q Rom n t k past row rows e = ap (λ (i : ℕ). ranged k i row rows) e
continues_range q Set n t k past row rows e = ap (λ (i : ℕ). ranged k i row rows) e
continues_range q Stack n t k past row rows e = ap (λ (i : ℕ). ranged k i row rows) e
continues_range q Queue n t k past row rows e = ap (λ (i : ℕ). ranged k i row rows) e

-- every phase of every memory
continues : (q : ℕ) (m : Memory) (n t e : ℕ) (ph : Phase) (k : ℕ) (past : List Row) (row : Row) (rows : List Row) → op_in row.op (ops_due m ph) ≡ true
    → length past ≡ begins n t e (ranges_due m t) ph + k → (n + t ≤ length past → ends_due m n (raised past) (lowered past) ≡ e)
    → Continues q m n t ph k past row rows
unfolding ops_due begins
continues q m n t e Starting k past row rows o l d =
    of_op q m n t Starting k past row rows Init (op_of_one _ Init o) (continues_init q m n t k past row rows (omega arith))
continues q Ram n t e Operating k past row rows o l d =
    of_op q Ram n t Operating k past row rows Access (op_of_one _ Access o) (continues_access q n t k past row rows (omega arith))
continues q Rom n t e Operating k past row rows o l d =
    of_op q Rom n t Operating k past row rows Look (op_of_one _ Look o) (continues_look q n t k past row rows)
continues q Set n t e Operating k past row rows o l d =
    of_op q Set n t Operating k past row rows Member (op_of_one _ Member o) (continues_member q n t k past row rows)
continues q Stack n t e Operating k past row rows o l d = continues_stack q n t k past row rows o
continues q Queue n t e Operating k past row rows o l d = continues_queue q n t k past row rows o
continues q m n t e Ending k past row rows o l d =
    of_op q m n t Ending k past row rows End (op_of_one _ End o) (continues_end q m n t k past row rows (omega arith))
continues q m n t e Ranging k past row rows o l d =
    of_op q m n t Ranging k past row rows Range (op_of_one _ Range o)
    (continues_range q m n t k past row rows (omega (arith, d (omega arith))))
continues q m n t e Over k past row rows o l d = op_of_none _ o

-- rows in their places within one phase emit the phase's lists
pub phase_emitted : (q : ℕ) (m : Memory) (n t e : ℕ) (ph : Phase) (k : ℕ) (past rows : List Row) → length past ≡ begins n t e (ranges_due m t) ph + k
    → k + length rows ≤ spans n t e (ranges_due m t) ph → Each (Placed m n t e) past rows
    → emitted q m n t past rows ≡ expected q m ph k (raised past) (lowered past) rows
unfolding emitted
phase_emitted q m n t e ph k past [] l s f = sym (expected_none q m ph k (raised past) (lowered past))
phase_emitted q m n t e ph k past (row ∷ rows) l s f =
    ap (join (emits q (context_of q m n t past) row))
    (phase_emitted q m n t e ph (suc k) (past ++ row ∷ []) rows (omega (arith, length_snoc past row)) (omega arith) f.1
    ∙ ap₂ (λ (u d : ℕ). expected q m ph (suc k) u d rows) (raised_snoc past row) (lowered_snoc past row))
    ∙ continues q m n t e ph k past row rows here l f.0.ends
  where
    here : op_in row.op (ops_due m ph) ≡ true
    here =
        subst (λ (x : Phase). op_in row.op (ops_due m x) ≡ true)
        (ap (phase_at n t e (ranges_due m t)) l ∙ phase_in_span n t e (ranges_due m t) k ph (omega arith)) f.0.op
