-- The filler of document 01 by rows: rows that are the filler's are those of the honest prover's rules, and the filler refused none of the init rows and
-- operations; and a run without refusal is one whose rows are due and formed and whose operations are possible.
-- Assumes nothing.
use Prim.Native.Nat.{ℕ, suc, ◌+◌, ◌*◌, ◌≤◌}
use native.Mathlib.Omega.{arith}
use mathlib.Core.Path.{◌≡◌, refl, sym, ◌∙◌, ap, ap₂}
use mathlib.Core.Bool.{Bool, true, false, ◌&&◌, cond}
use Rattle.std.specs.Prelude.{Some}
use mathlib.Core.List.{List, [], ◌∷◌, ◌++◌, map, map-append}
use lib.Dec.{eqb}
use lib.ListN.{length, take, drop, replicate, length-append, length-map, length-take, length-drop, length-replicate}
use lib.Seq.{take_at, drop_at, take-add, length-take-le}
use borrow.Author.Tests.{eqb-true, eqb-false, eq-eqb, le-leb}
use Rattle.memory.specs.declared.Memory.{Memory}
use Rattle.memory.specs.declared.Phase.{Phase}
use Rattle.memory.specs.declared.Phase.TheVariants.{Starting, Operating}
use Rattle.memory.specs.declared.Row.{Row}
use Rattle.memory.specs.Content.{Content, content_of, number_of}
use Rattle.memory.specs.Bytes.{all_below}
use Rattle.memory.specs.Rows.{allowed, ops_due, op_in, formed}
use Rattle.runs.specs.Plain.{start, after}
use Rattle.runs.specs.Honest.{Input, input_of, bare, filled_row, filled_rows, impossible, input_operation, possible}
use Rattle.memory.specs.Names.{op_coded}
use Rattle.memory.proofs.Content.{Single}
use Rattle.runs.specs.Filler.{input_numbers, row_numbers, room, input_fault, operation_fault, Placed, placed, operations_fault, rows_fault, Filling, turned_away, filled_with, row_refused, fill_rows, fill_memory, fill_of}
use Rattle.memory.specs.Names.{memory_code}
use Rattle.runs.specs.Advised.{filling_for, Advised}
use Rattle.memory.proofs.ReadRows.{both_pass, chosen_zero, SingleRows, single_taken, single_dropped, formed_single}
use Rattle.runs.proofs.FillerRows.{SingleInputs, single_append, memory_coded_lem, inputs_coded, input_numbers_length}
use Rattle.memory.proofs.Operations.{op_coded_lem}

-- the numbers of output rows stand for them
rows_coded : List ℕ → List Row
rows_coded [] = []
rows_coded (o ∷ []) = []
rows_coded (o ∷ g ∷ []) = []
rows_coded (o ∷ g ∷ a ∷ []) = []
rows_coded (o ∷ g ∷ a ∷ v ∷ []) = []
rows_coded (o ∷ g ∷ a ∷ v ∷ b ∷ []) = []
rows_coded (o ∷ g ∷ a ∷ v ∷ b ∷ c ∷ []) = []
rows_coded (o ∷ g ∷ a ∷ v ∷ b ∷ c ∷ d ∷ rest) =
    record { op = op_coded o; guard = g; addr = a; value = content_of v; old = content_of b; time = c; version = d } ∷ rows_coded rest

rows_coded_lem : (rows : List Row) → SingleRows rows → rows_coded (row_numbers rows) ≡ rows
unfolding rows_coded row_numbers
rows_coded_lem [] s = refl
rows_coded_lem (row ∷ rows) s =
    λ j. record {
      op = op_coded_lem row.op j;
      guard = row.guard;
      addr = row.addr;
      value = s.0.0 j;
      old = s.0.1 j;
      time = row.time;
      version = row.version;
    } ∷ rows_coded_lem rows s.1 j

-- so equal numbers are equal rows
pub row_numbers_injective : (rows others : List Row) → SingleRows rows → SingleRows others → row_numbers rows ≡ row_numbers others → rows ≡ others
row_numbers_injective rows others s r e = sym (rows_coded_lem rows s) ∙ (ap rows_coded e ∙ rows_coded_lem others r)

-- 7 numbers an output row
pub row_numbers_length : (rows : List Row) → length (row_numbers rows) ≡ 7 * length rows
unfolding row_numbers
row_numbers_length [] = refl
row_numbers_length (row ∷ rows) = omega (arith, row_numbers_length rows)

-- the filler on as many rows as it should have, with room
pub fill_with_room : (q : ℕ) (m : Memory) (n t : ℕ) (inits ops : List Input) (out scratch : List ℕ) → allowed m n t ≡ true → length inits ≡ n → length ops ≡ t
    → SingleInputs inits → SingleInputs ops → 7 * room n t ≤ length out → room n t ≤ length scratch
    → fill_of q (memory_code m) n t (input_numbers (inits ++ ops)) out scratch ≡ fill_rows q m t inits ops out scratch
unfolding fill_of fill_memory
fill_with_room q m n t inits ops out scratch h size count si so wide deep =
    let long : length (input_numbers (inits ++ ops)) ≡ 4 * (n + t) = omega (arith, input_numbers_length (inits ++ ops), length-append inits ops) in
    rw (
      memory_coded_lem m,
      h,
      eq-eqb (length (input_numbers (inits ++ ops))) (4 * (n + t)) long,
      le-leb (7 * room n t) (length out) wide,
      le-leb (room n t) (length scratch) deep,
      inputs_coded (inits ++ ops) (single_append inits ops si so),
      take_at inits ops n size,
      drop_at inits ops n size,
    )

-- a filler that refused nothing wrote the honest prover's rows
record Wrote (q : ℕ) (m : Memory) (t : ℕ) (inits ops : List Input) (out scratch : List ℕ) : Type 0 where
  unrefused : (rows_fault q m (map (λ i. i.value) inits) 1 inits ops).number ≡ 0
  filled : fill_rows q m t inits ops out scratch ≡ filled_with (filled_rows m t inits ops) out scratch

-- where the answer is 0
wrote : (q : ℕ) (m : Memory) (t : ℕ) (inits ops : List Input) (out scratch : List ℕ) → (fill_rows q m t inits ops out scratch).answer ≡ 0
    → Wrote q m t inits ops out scratch
unfolding fill_rows row_refused
wrote q m t inits ops out scratch e = go (eqb (rows_fault q m (map (λ i. i.value) inits) 1 inits ops).number 0) refl e
  where
    f : Placed
    f = rows_fault q m (map (λ i. i.value) inits) 1 inits ops

    go : (b : Bool) → eqb f.number 0 ≡ b → (cond b (filled_with (filled_rows m t inits ops) out scratch) (row_refused f out scratch)).answer ≡ 0
        → Wrote q m t inits ops out scratch
    go true test answer = record { unrefused = eqb-true f.number 0 test; filled = rw test }
    go false test answer = absurd (eqb-false f.number 0 test answer)

-- the init rows and operations that the filler is given
given : (n t : ℕ) (rows : List Row) → input_numbers (map input_of (take (n + t) rows)) ≡ input_numbers (map input_of (take n rows) ++ map input_of (take t (drop n rows)))
given n t rows = ap input_numbers (ap (map input_of) (take-add n t rows) ∙ map-append input_of (take n rows) (take t (drop n rows)))

-- a filler that answers 0 has turned no rows away
kept_rows : (b : Bool) (f : Filling) (k : ℕ) (out scratch : List ℕ) → (k ≡ 0 → ⊥) → (cond b f (turned_away k out scratch)).answer ≡ 0 → (b ≡ true) × (f.answer ≡ 0)
unfolding turned_away
kept_rows true f k out scratch h e = (refl, e)
kept_rows false f k out scratch h e = absurd (h e)

-- so size and count are allowed, and the rows are size + count
admitted : (q : ℕ) (m : Memory) (n t : ℕ) (is : List Input) (out scratch : List ℕ) → (fill_of q (memory_code m) n t (input_numbers is) out scratch).answer ≡ 0
    → (allowed m n t ≡ true) × (length is ≡ n + t)
unfolding fill_of fill_memory
admitted q m n t is out scratch e = go (rw (memory_coded_lem m) at e)
  where
    go : (fill_memory q (Some m) n t (input_numbers is) out scratch).answer ≡ 0 → (allowed m n t ≡ true) × (length is ≡ n + t)
    go answer =
        let fit = kept_rows (allowed m n t) _ 4 out scratch (omega arith) answer in
        let many = kept_rows (eqb (length (input_numbers is)) (4 * (n + t))) _ 7 out scratch (omega arith) fit.1 in
        (fit.0, omega (arith, eqb-true (length (input_numbers is)) (4 * (n + t)) many.0, input_numbers_length is))

-- "The advice is the filler's": size and count are allowed, there are as many init rows and operations, the filler refused none of them, and the rows are those of
-- the honest prover's rules
pub record FilledRows (q : ℕ) (m : Memory) (n t : ℕ) (rows : List Row) : Type 0 where
  pub fit : allowed m n t ≡ true
  pub size : length (take n rows) ≡ n
  pub count : length (take t (drop n rows)) ≡ t
  pub unrefused : (rows_fault q m (map (λ i. i.value) (map input_of (take n rows))) 1 (map input_of (take n rows)) (map input_of (take t (drop n rows)))).number ≡ 0
  pub filled : rows ≡ filled_rows m t (map input_of (take n rows)) (map input_of (take t (drop n rows)))

-- the inputs of rows whose contents are nothing but their numbers
single_inputs : (rows : List Row) → SingleRows rows → SingleInputs (map input_of rows)
unfolding input_of
single_inputs [] s = tt
single_inputs (row ∷ rows) s = (s.0.0, single_inputs rows s.1)

-- the contents that the rules write are nothing but their numbers: `honest_single`, which is shown
-- where the filler refuses nothing
pub advised_rows :
    (q : ℕ) (m : Memory) (n t : ℕ) (rows : List Row) → SingleRows rows
    → ((inits ops : List Input) → length ops ≡ t
    → (rows_fault q m (map (λ i. i.value) inits) 1 inits ops).number ≡ 0 → SingleRows (filled_rows m t inits ops))
    → Advised q m n t rows → FilledRows q m n t rows
unfolding filling_for
advised_rows q m n t rows single honest_single a =
    record {
      fit = fit.0;
      size = size;
      count = count;
      unrefused = w.unrefused;
      filled =
          sym (row_numbers_injective honest rows
          (honest_single inits ops (length-map (take t (drop n rows)) input_of ∙ count) w.unrefused) single same);
    }
  where
    fit : (allowed m n t ≡ true) × (length (map input_of (take (n + t) rows)) ≡ n + t)
    fit = admitted q m n t (map input_of (take (n + t) rows)) a.output a.scratch a.filled

    long : n + t ≤ length rows
    long = omega (arith, fit.1, length-map (take (n + t) rows) input_of, length-take (n + t) rows)

    size : length (take n rows) ≡ n
    size = length-take-le n rows (omega (arith, long))

    count : length (take t (drop n rows)) ≡ t
    count = length-take-le t (drop n rows) (omega (arith, long, length-drop n rows))

    inits : List Input
    inits = map input_of (take n rows)

    ops : List Input
    ops = map input_of (take t (drop n rows))

    si : SingleInputs inits
    si = single_inputs (take n rows) (single_taken n rows single)

    so : SingleInputs ops
    so = single_inputs (take t (drop n rows)) (single_taken t (drop n rows) (single_dropped n rows single))

    honest : List Row
    honest = filled_rows m t inits ops

    fill : fill_of q (memory_code m) n t (input_numbers (map input_of (take (n + t) rows))) a.output a.scratch ≡ fill_rows q m t inits ops a.output a.scratch
    fill =
        ap (λ (xs : List ℕ). fill_of q (memory_code m) n t xs a.output a.scratch) (given n t rows)
        ∙ fill_with_room q m n t inits ops a.output a.scratch fit.0 (length-map (take n rows) input_of ∙ size) (length-map (take t (drop n rows)) input_of ∙ count) si so a.output_room a.scratch_room

    w : Wrote q m t inits ops a.output a.scratch
    w = wrote q m t inits ops a.output a.scratch (ap (λ (f : Filling). f.answer) (sym fill) ∙ a.filled)

    result : fill_of q (memory_code m) n t (input_numbers (map input_of (take (n + t) rows))) a.output a.scratch ≡ filled_with honest a.output a.scratch
    result = fill ∙ w.filled

    counted : length honest ≡ length rows
    counted = unfold filled_with in ap (λ (f : Filling). f.count) (sym result) ∙ a.counted

    same : row_numbers honest ≡ row_numbers rows
    same =
        unfold filled_with in
        sym (take_at (row_numbers honest) (drop (length (row_numbers honest)) a.output) (7 * length rows) (omega (arith, row_numbers_length honest, counted)))
        ∙ (ap (λ (f : Filling). take (7 * length rows) f.output) (sym result) ∙ a.written)

-- The other way round: rows that the filler writes for the init rows and operations among them have the filler's advice.
pub filled_advised : (q : ℕ) (m : Memory) (n t : ℕ) (inits ops : List Input) → allowed m n t ≡ true → length inits ≡ n → length ops ≡ t
    → SingleInputs inits → SingleInputs ops → (rows_fault q m (map (λ i. i.value) inits) 1 inits ops).number ≡ 0
    → map input_of (take (n + t) (filled_rows m t inits ops)) ≡ inits ++ ops
    → Advised q m n t (filled_rows m t inits ops)
unfolding filling_for filled_with
filled_advised q m n t inits ops fit size count si so unrefused same = record {
  output = output;
  scratch = scratch;
  output_room = wide;
  scratch_room = deep;
  filled = ap (λ (f : Filling). f.answer) result;
  counted = ap (λ (f : Filling). f.count) result;
  written =
      ap (λ (f : Filling). take (7 * length rows) f.output) result
      ∙ take_at (row_numbers rows) (drop (length (row_numbers rows)) output) (7 * length rows) (row_numbers_length rows);
}
  where
    rows : List Row
    rows = filled_rows m t inits ops

    output : List ℕ
    output = replicate (7 * room n t) 0

    scratch : List ℕ
    scratch = replicate (room n t) 0

    wide : 7 * room n t ≤ length output
    wide = omega (arith, length-replicate {A = ℕ} (7 * room n t) 0)

    deep : room n t ≤ length scratch
    deep = omega (arith, length-replicate {A = ℕ} (room n t) 0)

    unstopped : fill_rows q m t inits ops output scratch ≡ filled_with rows output scratch
    unstopped = unfold fill_rows in rw unrefused

    result : fill_of q (memory_code m) n t (input_numbers (map input_of (take (n + t) rows))) output scratch ≡ filled_with rows output scratch
    result =
        ap (λ (is : List Input). fill_of q (memory_code m) n t (input_numbers is) output scratch) same
        ∙ (fill_with_room q m n t inits ops output scratch fit size count si so wide deep ∙ unstopped)

-- An input row that meets none of 3, 5, 6: its numbers are elements, its op is due, and the row has
-- its form; so its value is nothing but its number.
abbrev pub DueInput : ℕ → Memory → Phase → Input → Type 0
DueInput q m p i =
    (all_below q (i.guard ∷ i.addr ∷ number_of i.value ∷ []) ≡ true) × (op_in i.op (ops_due m p) ≡ true) × (formed m (bare i) ≡ true)
    × Single i.value

-- the same of each row of a list
abbrev pub DueInputs : ℕ → Memory → Phase → List Input → Type 0
DueInputs q m p [] = Unit {0}
DueInputs q m p (i ∷ is) = DueInput q m p i × DueInputs q m p is

pub due_single : (q : ℕ) (m : Memory) (p : Phase) (is : List Input) → DueInputs q m p is → SingleInputs is
due_single q m p [] due = tt
due_single q m p (i ∷ is) due = (due.0.3, due_single q m p is due.1)

-- no fault by its form is to be such a row
input_due : (q : ℕ) (m : Memory) (p : Phase) (i : Input) → input_fault q m (ops_due m p) i ≡ 0 → DueInput q m p i
unfolding input_fault bare filled_row
input_due q m p i e =
    let below = chosen_zero (all_below q (i.guard ∷ i.addr ∷ number_of i.value ∷ [])) _ 3 (omega arith) e in
    let op = chosen_zero (op_in i.op (ops_due m p)) _ 5 (omega arith) below.1 in
    let form = chosen_zero (formed m (bare i)) 0 6 (omega arith) op.1 in
    (below.0, op.0, form.0, (formed_single m (bare i) form.0).0)

-- and the other way round
due_input : (q : ℕ) (m : Memory) (p : Phase) (i : Input) → DueInput q m p i → input_fault q m (ops_due m p) i ≡ 0
unfolding input_fault
due_input q m p i d = rw (d.0, d.1, d.2)

-- the first of two faults, and the rest where it is none
none_before : (b : Bool) (f x : ℕ) → eqb f 0 ≡ b → cond b x f ≡ 0 → (f ≡ 0) × (x ≡ 0)
none_before true f x test e = (eqb-true f 0 test, e)
none_before false f x test e = absurd (eqb-false f 0 test e)

-- the same of a fault with its place
none_placed : (b : Bool) (f k : ℕ) (rest : Placed) → eqb f 0 ≡ b → (cond b rest (placed f k)).number ≡ 0 → (f ≡ 0) × (rest.number ≡ 0)
unfolding placed
none_placed true f k rest test e = (eqb-true f 0 test, e)
none_placed false f k rest test e = absurd (eqb-false f 0 test e)

-- the operations are not refused exactly when each is due and possible
operations_due : (q : ℕ) (m : Memory) (content : List Content) (k : ℕ) (ops : List Input) → (operations_fault q m content k ops).number ≡ 0
    → DueInputs q m Operating ops × (possible m content ops ≡ true)
unfolding operations_fault operation_fault possible
operations_due q m content k [] e = (tt, refl)
operations_due q m content k (i ∷ is) e =
    let first = none_placed _ (operation_fault q m content i) k (operations_fault q m (after content (input_operation m i)) (suc k) is) refl e in
    let here = none_before _ (input_fault q m (ops_due m Operating) i) (impossible content (input_operation m i)) refl first.0 in
    let rest = operations_due q m (after content (input_operation m i)) (suc k) is first.1 in
    ((input_due q m Operating i here.0, rest.0), ap₂ ◌&&◌ (eq-eqb _ 0 here.1) rest.1)

due_operations : (q : ℕ) (m : Memory) (content : List Content) (k : ℕ) (ops : List Input) → DueInputs q m Operating ops → possible m content ops ≡ true
    → (operations_fault q m content k ops).number ≡ 0
unfolding operations_fault operation_fault possible placed
due_operations q m content k [] due can = refl
due_operations q m content k (i ∷ is) due can =
    let both = both_pass (eqb (impossible content (input_operation m i)) 0) (possible m (after content (input_operation m i)) is) can in
    rw (due_input q m Operating i due.0, eqb-true (impossible content (input_operation m i)) 0 both.0)
    (due_operations q m (after content (input_operation m i)) (suc k) is due.1 both.1)

-- the values of init rows
abbrev pub values_of : List Input → List Content
values_of inits = map (λ i. i.value) inits

-- what it is that the filler refuses nothing
pub record Unrefused (q : ℕ) (m : Memory) (values : List Content) (inits ops : List Input) : Type 0 where
  pub starting : DueInputs q m Starting inits
  pub operating : DueInputs q m Operating ops
  pub can : possible m (start m values) ops ≡ true

pub no_refusal : (q : ℕ) (m : Memory) (values : List Content) (k : ℕ) (inits ops : List Input) → (rows_fault q m values k inits ops).number ≡ 0
    → Unrefused q m values inits ops
unfolding rows_fault
no_refusal q m values k [] ops e =
    let rest = operations_due q m (start m values) k ops e in record { starting = tt; operating = rest.0; can = rest.1 }
no_refusal q m values k (i ∷ is) ops e =
    let first = none_placed _ (input_fault q m (ops_due m Starting) i) k (rows_fault q m values (suc k) is ops) refl e in
    let rest = no_refusal q m values (suc k) is ops first.1 in
    record { starting = (input_due q m Starting i first.0, rest.starting); operating = rest.operating; can = rest.can }

-- and the other way round
pub unrefused_zero : (q : ℕ) (m : Memory) (values : List Content) (k : ℕ) (inits ops : List Input) → Unrefused q m values inits ops
    → (rows_fault q m values k inits ops).number ≡ 0
unfolding rows_fault
unrefused_zero q m values k [] ops u = due_operations q m (start m values) k ops u.operating u.can
unrefused_zero q m values k (i ∷ is) ops u =
    rw (due_input q m Starting i u.starting.0)
    (unrefused_zero q m values (suc k) is ops (record { starting = u.starting.1; operating = u.operating; can = u.can }))
