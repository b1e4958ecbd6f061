-- The numbers of the rows that the filler writes are elements, and their ops have names: so lines can hold them.
-- Assumes nothing.
use Prim.Native.Nat.{ℕ, zero, suc, ◌+◌, ◌-◌, ◌≤◌, ◌<◌}
use native.Mathlib.Omega.{arith}
use mathlib.Core.Path.{◌≡◌, refl}
use mathlib.Core.Bool.{true, false, cond}
use mathlib.Core.List.{List, [], ◌∷◌, ◌++◌, map}
use lib.Dec.{eqb, ltb}
use lib.ListN.{length, get_or, drop, set}
use borrow.Author.Tests.{lt-ltb, leb-true, ltb-true}
use Rattle.memory.specs.declared.Memory.{Memory}
use Rattle.memory.specs.declared.Memory.TheVariants.{Ram, Rom, Set, Stack, Queue}
use Rattle.memory.specs.declared.Op.{Op}
use Rattle.memory.specs.declared.Op.TheVariants.{Push, Enqueue, Other}
use Rattle.memory.specs.declared.Phase.{Phase}
use Rattle.memory.specs.declared.Phase.TheVariants.{Starting, Operating}
use Rattle.memory.specs.declared.Row.{Row}
use Rattle.memory.specs.Content.{Content, no_content, number_of}
use Rattle.memory.specs.Bytes.{all_below}
use Rattle.memory.specs.Names.{op_code, is_op}
use Rattle.memory.specs.Rows.{ops_due, op_in, row_below}
use Rattle.memory.proofs.Content.{ContentBelow}
use Rattle.runs.specs.Plain.{among}
use Rattle.runs.specs.Honest.{Input, filled_row, bare, end_row, range_row, occurrences, range_rows_from, Cell, cell, cell_at, ram_age, ram_row, ram_cells, ram_ends, ram_from, rom_ends_from, rom_from, set_ends_from, set_from, top_cell, stack_ends, pop_time, pop_row, stack_from, queue_from, operations_filled, filled_rows}
use Rattle.memory.proofs.ReadFields.{chosen}
use Rattle.memory.proofs.ReadRows.{both_pass, RowsBelow, row_below_lem}
use Rattle.memory.proofs.Operations.{not_among, other_not_due}
use Rattle.memory.proofs.Phases.{formed_guard}
use Rattle.runs.proofs.Lengths.{columns_of}
use Rattle.demands.proofs.RoundTrip.{Printable, AllPrintable}
use Rattle.runs.proofs.HonestLookups.{All, occurs_at_most}
use Rattle.demands.proofs.Advice.{DueInput, DueInputs, values_of, Unrefused}

-- what holds of every entry of a list, and of the default, holds of an entry by its place
all_at : {A : Type 0} (P : A → Type 0) (xs : List A) (i : ℕ) (d : A) → All P xs → P d → P (get_or xs i d)
all_at P [] i d h hd = hd
all_at P (x ∷ xs) zero d h hd = h.0
all_at P (x ∷ xs) (suc i) d h hd = all_at P xs i d h.1 hd

-- of the entries with one of them set
all_set : {A : Type 0} (P : A → Type 0) (xs : List A) (i : ℕ) (x : A) → All P xs → P x → All P (set xs i x)
all_set P [] i y h hy = tt
all_set P (x ∷ xs) zero y h hy = (hy, h.1)
all_set P (x ∷ xs) (suc i) y h hy = (h.0, all_set P xs i y h.1 hy)

-- of the entries but for the first
all_rest : {A : Type 0} (P : A → Type 0) (xs : List A) → All P xs → All P (drop 1 xs)
all_rest P [] h = tt
all_rest P (x ∷ xs) h = h.1

-- of the entries with one more at the end
all_then : {A : Type 0} (P : A → Type 0) (xs : List A) (x : A) → All P xs → P x → All P (xs ++ x ∷ [])
all_then P [] y h hy = (hy, tt)
all_then P (x ∷ xs) y h hy = (h.0, all_then P xs y h.1 hy)

-- a row whose numbers are elements
numbers_below : (q g a v o t n : ℕ) → g < q → a < q → v < q → o < q → t < q → n < q → all_below q (g ∷ a ∷ v ∷ o ∷ t ∷ n ∷ []) ≡ true
unfolding all_below
numbers_below q g a v o t n hg ha hv ho ht hn =
    rw (lt-ltb g q hg, lt-ltb a q ha, lt-ltb v q hv, lt-ltb o q ho, lt-ltb t q ht, lt-ltb n q hn)

-- an op that is due has a name
due_named : (m : Memory) (p : Phase) (o : Op) → op_in o (ops_due m p) ≡ true → is_op o Other ≡ false
due_named m p o h = not_among (ops_due m p) o Other (other_not_due m p) h

-- the numbers of a due input
input_below : (q : ℕ) (m : Memory) (p : Phase) (i : Input) → DueInput q m p i → (i.guard < q) × (i.addr < q) × ContentBelow q i.value
unfolding all_below
input_below q m p i due =
    let guard = both_pass (ltb i.guard q) _ due.0 in
    let addr = both_pass (ltb i.addr q) _ guard.1 in
    let value = both_pass (ltb (number_of i.value) q) _ addr.1 in
    (ltb-true i.guard q guard.0, ltb-true i.addr q addr.0, (ltb-true (number_of i.value) q value.0, due.3))

-- the row of a due input, with advice that is elements
filled_printable : (q : ℕ) (m : Memory) (p : Phase) (i : Input) (o : Content) (t v : ℕ) → DueInput q m p i → ContentBelow q o → t < q → v < q
    → Printable q (filled_row i o t v)
unfolding filled_row columns_of
filled_printable q m p i o t v due ho ht hv =
    let b = input_below q m p i due in
    record { named = due_named m p i.op due.1; small = numbers_below q _ _ _ (number_of o) t v b.0 b.1 b.2.0 ho.0 ht hv; single = (b.2.1, ho.1) }

-- the row of a due input without advice
bare_printable : (q : ℕ) (m : Memory) (p : Phase) (i : Input) → 0 < q → DueInput q m p i → Printable q (bare i)
unfolding bare
bare_printable q m p i positive due = filled_printable q m p i no_content 0 0 due (positive, refl) positive positive

bares_printable : (q : ℕ) (m : Memory) (p : Phase) (is : List Input) → 0 < q → DueInputs q m p is → AllPrintable q (map bare is)
bares_printable q m p [] positive due = tt
bares_printable q m p (i ∷ is) positive due = (bare_printable q m p i positive due.0, bares_printable q m p is positive due.1)

-- end rows and range rows
end_printable : (q : ℕ) (value o : Content) (t v : ℕ) → ContentBelow q value → ContentBelow q o → t < q → v < q → Printable q (end_row value o t v)
unfolding end_row columns_of is_op op_code
end_printable q value o t v hvalue ho ht hv =
    record { named = refl; small = numbers_below q 0 0 (number_of value) (number_of o) t v (omega arith) (omega arith) hvalue.0 ho.0 ht hv; single = (hvalue.1, ho.1) }

-- an occurrence count below the length of a list that is below q
occurs_below : (q x : ℕ) (keys : List ℕ) (k : ℕ) → length keys + k < q → occurrences x keys < q
occurs_below q x keys k few = omega (arith, few, occurs_at_most x keys)

ranges_printable : (q i t : ℕ) (ages : List ℕ) → length ages + 0 < q → AllPrintable q (range_rows_from i t ages)
unfolding range_rows_from range_row columns_of is_op op_code
ranges_printable q i zero ages few = tt
ranges_printable q i (suc t) ages few =
    let v = occurs_below q i ages 0 few in
    (record { named = refl; small = numbers_below q 0 0 0 0 0 _ (omega arith) (omega arith) (omega arith) (omega arith) (omega arith) v; single = (refl, refl) }, ranges_printable q (suc i) t ages few)

printable_append : (q : ℕ) (xs ys : List Row) → AllPrintable q xs → AllPrintable q ys → AllPrintable q (xs ++ ys)
printable_append q [] ys px py = py
printable_append q (x ∷ xs) ys px py = (px.0, printable_append q xs ys px.1 py)

-- A cell whose content and time are elements.
abbrev CellBelow : ℕ → Cell → Type 0
CellBelow q c = ContentBelow q c.content × (c.time < q)

cell_below : (q : ℕ) (v : Content) (t : ℕ) → ContentBelow q v → t < q → CellBelow q (cell v t)
unfolding cell
cell_below q v t hv ht = (hv, ht)

cell_at_below : (q : ℕ) (cells : List Cell) (i : ℕ) → 0 < q → All (CellBelow q) cells → CellBelow q (cell_at cells i)
unfolding cell_at
cell_at_below q cells i positive h = all_at (CellBelow q) cells i (cell no_content 0) h (cell_below q no_content 0 (positive, refl) positive)

-- the cells after an access
ram_cells_below : (q : ℕ) (cells : List Cell) (clock : ℕ) (i : Input) → ContentBelow q i.value → clock < q → All (CellBelow q) cells
    → All (CellBelow q) (ram_cells cells clock i)
unfolding ram_cells
ram_cells_below q cells clock i value time h =
    all_set (CellBelow q) cells i.addr _ h
    (cell_below q _ clock (chosen (ContentBelow q) (eqb i.guard 1) value (cell_at_below q cells i.addr (omega arith) h).0) time)

-- the end rows of a ram
ram_ends_printable : (q : ℕ) (cells : List Cell) → 0 < q → All (CellBelow q) cells → AllPrintable q (ram_ends cells)
unfolding ram_ends
ram_ends_printable q [] positive h = tt
ram_ends_printable q (c ∷ cells) positive h =
    (end_printable q no_content c.content c.time 0 (positive, refl) h.0.0 h.0.1 positive, ram_ends_printable q cells positive h.1)

-- the rows of a ram from some cells and ages on; the clocks are elements, and the lookups are fewer than q
ram_printable : (q : ℕ) (cells : List Cell) (clock : ℕ) (ages : List ℕ) (t : ℕ) (is : List Input) → clock + length is < q → length ages + length is < q
    → All (CellBelow q) cells → DueInputs q Ram Operating is → AllPrintable q (ram_from cells clock ages t is)
unfolding ram_from ram_row
ram_printable q cells clock ages t [] soon few h due =
    printable_append q (ram_ends cells) (range_rows_from 1 t ages) (ram_ends_printable q cells (omega arith) h) (ranges_printable q 1 t ages few)
ram_printable q cells clock ages t (i ∷ is) soon few h due =
    let at = cell_at_below q cells i.addr (omega arith) h in (
      filled_printable q Ram Operating i _ _ _ due.0 at.0 at.1 (occurs_below q _ ages (suc (length is)) few),
      ram_printable q (ram_cells cells clock i) (suc clock) (ram_age cells clock i ∷ ages) t is (omega arith) (omega arith)
          (ram_cells_below q cells clock i (input_below q Ram Operating i due.0).2 (omega arith) h) due.1,
    )

-- the rows of a rom
abbrev Below : ℕ → ℕ → Type 0
Below q x = x < q

rom_ends_printable : (q k : ℕ) (values : List Content) (keys : List ℕ) → length keys + 0 < q → All (ContentBelow q) values → AllPrintable q (rom_ends_from k values keys)
unfolding rom_ends_from
rom_ends_printable q k [] keys few h = tt
rom_ends_printable q k (v ∷ values) keys few h =
    (end_printable q v no_content 0 _ h.0 (omega arith, refl) (omega arith) (occurs_below q k keys 0 few), rom_ends_printable q (suc k) values keys few h.1)

rom_printable : (q : ℕ) (values : List Content) (keys : List ℕ) (is : List Input) → length keys + length is < q → All (ContentBelow q) values → DueInputs q Rom Operating is
    → AllPrintable q (rom_from values keys is)
unfolding rom_from
rom_printable q values keys [] few h due = rom_ends_printable q 0 values keys few h
rom_printable q values keys (i ∷ is) few h due = (
  filled_printable q Rom Operating i _ 0 _ due.0 (all_at (ContentBelow q) values i.addr no_content h (omega arith, refl)) (omega arith) (occurs_below q i.addr keys (suc (length is)) few),
  rom_printable q values (i.addr ∷ keys) is (omega arith) h due.1,
)

-- the rows of a set
set_ends_printable : (q : ℕ) (earlier values : List Content) (keys : List ℕ) → length keys + 0 < q → All (ContentBelow q) values → AllPrintable q (set_ends_from earlier values keys)
unfolding set_ends_from
set_ends_printable q earlier [] keys few h = tt
set_ends_printable q earlier (v ∷ values) keys few h = (
  end_printable q v no_content 0 _ h.0 (omega arith, refl) (omega arith) (chosen (Below q) (among (number_of v) earlier) (omega arith) (occurs_below q (number_of v) keys 0 few)),
  set_ends_printable q (v ∷ earlier) values keys few h.1,
)

set_printable : (q : ℕ) (values : List Content) (keys : List ℕ) (is : List Input) → length keys + length is < q → All (ContentBelow q) values → DueInputs q Set Operating is
    → AllPrintable q (set_from values keys is)
unfolding set_from
set_printable q values keys [] few h due = set_ends_printable q [] values keys few h
set_printable q values keys (i ∷ is) few h due = (
  filled_printable q Set Operating i no_content 0 _ due.0 (omega arith, refl) (omega arith) (occurs_below q (number_of i.value) keys (suc (length is)) few),
  set_printable q values (number_of i.value ∷ keys) is (omega arith) h due.1,
)

-- the rows of a stack
stack_ends_printable : (q : ℕ) (cells : List Cell) → 0 < q → All (CellBelow q) cells → AllPrintable q (stack_ends cells)
unfolding stack_ends
stack_ends_printable q [] positive h = tt
stack_ends_printable q (c ∷ cells) positive h =
    printable_append q (stack_ends cells) (end_row no_content c.content c.time 0 ∷ []) (stack_ends_printable q cells positive h.1)
    (end_printable q no_content c.content c.time 0 (positive, refl) h.0.0 h.0.1 positive, tt)

-- the row of a pop
pop_printable : (q : ℕ) (cells : List Cell) (clock : ℕ) (ages : List ℕ) (i : Input) → clock < q → length ages + 0 < q → All (CellBelow q) cells
    → DueInput q Stack Operating i → Printable q (pop_row cells clock ages i)
unfolding pop_row pop_time top_cell
pop_printable q cells clock ages i time few h due =
    let top = cell_at_below q cells 0 (omega arith) h in
    filled_printable q Stack Operating i _ _ _ due
    (chosen (ContentBelow q) (eqb i.guard 1) top.0 (omega arith, refl))
    (chosen (Below q) (eqb i.guard 1) top.1 (omega arith))
    (occurs_below q _ ages 0 few)

-- a due guard is at most 1
guard_small : (q : ℕ) (m : Memory) (p : Phase) (i : Input) → DueInput q m p i → i.guard ≤ 1
unfolding bare filled_row
guard_small q m p i due = leb-true i.guard 1 (formed_guard m (bare i) due.2)

stack_printable : (q : ℕ) (cells : List Cell) (clock : ℕ) (ages : List ℕ) (t : ℕ) (is : List Input) → clock + length is < q → length ages + length is < q
    → All (CellBelow q) cells → DueInputs q Stack Operating is → AllPrintable q (stack_from cells clock ages t is)
unfolding stack_from
stack_printable q cells clock ages t [] soon few h due =
    printable_append q (stack_ends cells) (range_rows_from 1 t ages) (stack_ends_printable q cells (omega arith) h) (ranges_printable q 1 t ages few)
stack_printable q cells clock ages t (i ∷ is) soon few h due =
    let small = guard_small q Stack Operating i due.0 in
    let value = (input_below q Stack Operating i due.0).2 in
    chosen (AllPrintable q) (is_op i.op Push) (
      bare_printable q Stack Operating i (omega arith) due.0,
      stack_printable q (cond (eqb i.guard 1) (cell i.value clock ∷ cells) cells) (clock + i.guard) ages t is (omega arith) (omega arith)
          (chosen (All (CellBelow q)) (eqb i.guard 1) (cell_below q i.value clock value (omega arith), h) h) due.1,
    ) (
      pop_printable q cells clock ages i (omega arith) (omega arith) h due.0,
      stack_printable q (cond (eqb i.guard 1) (drop 1 cells) cells) clock ((clock - pop_time cells clock i) ∷ ages) t is (omega arith) (omega arith)
          (chosen (All (CellBelow q)) (eqb i.guard 1) (all_rest (CellBelow q) cells h) h) due.1,
    )

-- the rows of a queue
queue_ends_printable : (q : ℕ) (content : List Content) → 0 < q → All (ContentBelow q) content → AllPrintable q (map (λ v. end_row no_content v 0 0) content)
queue_ends_printable q [] positive h = tt
queue_ends_printable q (v ∷ content) positive h =
    (end_printable q no_content v 0 0 (positive, refl) h.0 positive positive, queue_ends_printable q content positive h.1)

queue_printable : (q : ℕ) (content : List Content) (is : List Input) → 0 < q → All (ContentBelow q) content → DueInputs q Queue Operating is
    → AllPrintable q (queue_from content is)
unfolding queue_from
queue_printable q content [] positive h due = queue_ends_printable q content positive h
queue_printable q content (i ∷ is) positive h due =
    chosen (AllPrintable q) (is_op i.op Enqueue) (
      bare_printable q Queue Operating i positive due.0,
      queue_printable q (cond (eqb i.guard 1) (content ++ i.value ∷ []) content) is positive
          (chosen (All (ContentBelow q)) (eqb i.guard 1) (all_then (ContentBelow q) content i.value h (input_below q Queue Operating i due.0).2) h) due.1,
    ) (
      filled_printable q Queue Operating i _ 0 0 due.0 (chosen (ContentBelow q) (eqb i.guard 1) (all_at (ContentBelow q) content 0 no_content h (positive, refl)) (positive, refl)) positive positive,
      queue_printable q (cond (eqb i.guard 1) (drop 1 content) content) is positive (chosen (All (ContentBelow q)) (eqb i.guard 1) (all_rest (ContentBelow q) content h) h) due.1,
    )

-- the init values are elements, and so are the cells of a ram that hold them
values_below : (q : ℕ) (m : Memory) (p : Phase) (inits : List Input) → DueInputs q m p inits → All (ContentBelow q) (values_of inits)
values_below q m p [] due = tt
values_below q m p (i ∷ is) due = ((input_below q m p i due.0).2, values_below q m p is due.1)

start_below : (q : ℕ) (values : List Content) → All (ContentBelow q) values → 0 < q → All (CellBelow q) (map (λ v. cell v 0) values)
start_below q [] h positive = tt
start_below q (v ∷ values) h positive = (cell_below q v 0 h.0 positive, start_below q values h.1 positive)

-- the rows after the init rows
operations_printable : (q : ℕ) (m : Memory) (t : ℕ) (values : List Content) (ops : List Input) → t + 1 < q → length ops ≡ t → All (ContentBelow q) values
    → DueInputs q m Operating ops → AllPrintable q (operations_filled m t values ops)
unfolding operations_filled
operations_printable q Ram t values ops room count h due = ram_printable q _ 1 [] t ops (omega arith) (omega arith) (start_below q values h (omega arith)) due
operations_printable q Rom t values ops room count h due = rom_printable q values [] ops (omega arith) h due
operations_printable q Set t values ops room count h due = set_printable q values [] ops (omega arith) h due
operations_printable q Stack t values ops room count h due = stack_printable q [] 1 [] t ops (omega arith) (omega arith) tt due
operations_printable q Queue t values ops room count h due = queue_printable q [] ops (omega arith) tt due

-- Where the filler refuses nothing, lines can hold the rows that it writes.
pub filled_printable_rows : (q : ℕ) (m : Memory) (t : ℕ) (inits ops : List Input) → t + 1 < q → length ops ≡ t → Unrefused q m (values_of inits) inits ops
    → AllPrintable q (filled_rows m t inits ops)
unfolding filled_rows
filled_printable_rows q m t inits ops room count u =
    printable_append q (map bare inits) _ (bares_printable q m Starting inits (omega arith) u.starting)
    (operations_printable q m t (values_of inits) ops room count (values_below q m Starting inits u.starting) u.operating)

-- rows that lines can hold have their numbers below q
printable_below : (q : ℕ) (rows : List Row) → AllPrintable q rows → RowsBelow q rows
unfolding row_below columns_of
printable_below q [] p = tt
printable_below q (row ∷ rows) p = (row_below_lem q row p.0.single p.0.small, printable_below q rows p.1)

-- and so have the rows that the filler writes
pub filled_below : (q : ℕ) (m : Memory) (t : ℕ) (inits ops : List Input) → t + 1 < q → length ops ≡ t → Unrefused q m (values_of inits) inits ops
    → RowsBelow q (filled_rows m t inits ops)
filled_below q m t inits ops room count u = printable_below q (filled_rows m t inits ops) (filled_printable_rows q m t inits ops room count u)
