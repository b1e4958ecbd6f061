-- Rows of the filling program's input that meet none of 1 to 7 meet none of 3, 5 and 6 in the filler's library: what it answers of them is 0, 11, 12 or 13.
-- Assumes nothing.
use Prim.Native.Nat.{ℕ, zero, suc, ◌+◌, ◌≤◌}
use native.Mathlib.Omega.{arith}
use mathlib.Core.Path.{◌≡◌, refl, sym, ◌∙◌, ap}
use mathlib.Core.Bool.{Bool, true, false, cond}
use mathlib.Core.List.{List, [], ◌∷◌, map}
use lib.Dec.{eqb, ltb}
use lib.ListN.{length, take, drop}
use borrow.Author.Tests.{eqb-true, eqb-false, lt-ltb, le-ltb}
use Rattle.memory.specs.declared.Memory.{Memory}
use Rattle.memory.specs.declared.Phase.{Phase}
use Rattle.memory.specs.declared.Phase.TheVariants.{Starting, Operating}
use Rattle.memory.specs.Content.{Content}
use Rattle.memory.specs.Bytes.{Line}
use Rattle.memory.specs.Rows.{ops_due}
use Rattle.memory.specs.File.{Refusal, refusal}
use Rattle.runs.specs.Plain.{Operation, store, load, look, member, push, skipped_push, enqueue, skipped_enqueue, pop, skipped_pop, dequeue, skipped_dequeue, start, after, among, holds}
use Rattle.runs.specs.Honest.{Input, impossible, input_operation}
use Rattle.runs.specs.Filler.{input_fault, Placed, placed, operation_fault, operations_fault, rows_fault}
use Rattle.runs.specs.FillFile.{InputLine, sound, faulty, parse_input, input_line_fault, inputs_fault, input_of_line, inputs_of_lines}
use Rattle.runs.specs.FillStream.{late}
use Rattle.demands.specs.Statements.{TestedRowsLate}
use Rattle.runs.proofs.FillStream.{SingleOrFault, input_single_or_fault}

-- rows that meet none of 3, 5 and 6
abbrev Formed : ℕ → Memory → Phase → List Input → Type 0
Formed q m p [] = Unit {0}
Formed q m p (i ∷ is) = (input_fault q m (ops_due m p) i ≡ 0) × Formed q m p is

abbrev AllSingleOrFault : List InputLine → Type 0
AllSingleOrFault [] = Unit {0}
AllSingleOrFault (x ∷ xs) = SingleOrFault x × AllSingleOrFault xs

lines_single_or_fault : (q : ℕ) (lines : List Line) → AllSingleOrFault (map (parse_input q) lines)
lines_single_or_fault q [] = tt
lines_single_or_fault q (line ∷ lines) = (input_single_or_fault q line, lines_single_or_fault q lines)

-- no first fault: none here, and none after
none_here : (b : Bool) (f l : ℕ) (rest : Refusal) → eqb f 0 ≡ b → (cond b rest (refusal f l)).number ≡ 0 → (f ≡ 0) × (rest.number ≡ 0)
unfolding refusal
none_here true f l rest test e = (eqb-true f 0 test, e)
none_here false f l rest test e = absurd (eqb-false f 0 test e)

due_here : (b : Bool) (f : ℕ) → cond b f 7 ≡ 0 → f ≡ 0
due_here true f e = e
due_here false f e = absurd (omega arith)

-- no first fault among the operations, and among the rows with j init rows to come
operating : (q : ℕ) (m : Memory) (n t k : ℕ) (xs : List InputLine) → n ≤ k → AllSingleOrFault xs → (inputs_fault q m n t k xs).number ≡ 0
    → Formed q m Operating (inputs_of_lines xs)
unfolding inputs_fault inputs_of_lines input_of_line input_line_fault
operating q m n t k [] h r e = tt
operating q m n t k (faulty f ∷ xs) h r e =
    let here = none_here _ (cond (ltb k (n + t)) f 7) (k + 4) _ refl e in absurd (eqb-false f 0 r.0 (due_here (ltb k (n + t)) f here.0))
operating q m n t k (sound i ∷ xs) h r e =
    let here = none_here _ (cond (ltb k (n + t)) (input_fault q m (ops_due m (cond (ltb k n) Starting Operating)) i) 7) (k + 4) _ refl e in
    let formed = due_here (ltb k (n + t)) _ here.0 in (
      ap (λ (b : Bool). input_fault q m (ops_due m (cond b Starting Operating)) i) (sym (le-ltb k n h)) ∙ formed,
      operating q m n t (suc k) xs (omega arith) r.1 here.1,
    )

starting : (q : ℕ) (m : Memory) (n t j k : ℕ) (xs : List InputLine) → n ≡ k + j → AllSingleOrFault xs → (inputs_fault q m n t k xs).number ≡ 0
    → Formed q m Starting (take j (inputs_of_lines xs)) × Formed q m Operating (drop j (inputs_of_lines xs))
unfolding inputs_fault inputs_of_lines input_of_line input_line_fault
starting q m n t zero k xs h r e = (tt, operating q m n t k xs (omega arith) r e)
starting q m n t (suc j) k [] h r e = (tt, tt)
starting q m n t (suc j) k (faulty f ∷ xs) h r e =
    let here = none_here _ (cond (ltb k (n + t)) f 7) (k + 4) _ refl e in absurd (eqb-false f 0 r.0 (due_here (ltb k (n + t)) f here.0))
starting q m n t (suc j) k (sound i ∷ xs) h r e =
    let here = none_here _ (cond (ltb k (n + t)) (input_fault q m (ops_due m (cond (ltb k n) Starting Operating)) i) 7) (k + 4) _ refl e in
    let formed = due_here (ltb k (n + t)) _ here.0 in
    let rest = starting q m n t j (suc k) xs (omega arith) r.1 here.1 in
    ((ap (λ (b : Bool). input_fault q m (ops_due m (cond b Starting Operating)) i) (sym (lt-ltb k n (omega arith))) ∙ formed, rest.0), rest.1)

-- 11, 12 and 13 are late
late_unless : (b : Bool) (f : ℕ) → late f ≡ true → late (cond b 0 f) ≡ true
unfolding late
late_unless true f e = refl
late_unless false f e = e

impossible_late : (content : List Content) (o : Operation) → late (impossible content o) ≡ true
unfolding impossible late
impossible_late content (store addr value) = late_unless (ltb addr (length content)) 11 refl
impossible_late content (load addr value old) = late_unless (ltb addr (length content)) 11 refl
impossible_late content (look addr old) = late_unless (ltb addr (length content)) 11 refl
impossible_late content (member value) = late_unless (among value content) 13 refl
impossible_late content (push value) = refl
impossible_late content (skipped_push value) = refl
impossible_late content (enqueue value) = refl
impossible_late content (skipped_enqueue value) = refl
impossible_late content (pop old) = late_unless (holds content) 12 refl
impossible_late content skipped_pop = refl
impossible_late content (dequeue old) = late_unless (holds content) 12 refl
impossible_late content skipped_dequeue = refl

-- the first of two faults is late where both are
late_first : (b : Bool) (f k : ℕ) (rest : Placed) → late f ≡ true → late rest.number ≡ true → late (cond b rest (placed f k)).number ≡ true
unfolding placed
late_first true f k rest h g = g
late_first false f k rest h g = h

operations_late : (q : ℕ) (m : Memory) (content : List Content) (k : ℕ) (ops : List Input) → Formed q m Operating ops → late (operations_fault q m content k ops).number ≡ true
unfolding operations_fault operation_fault placed late
operations_late q m content k [] h = refl
operations_late q m content k (i ∷ is) h =
    let x = input_operation m i in
    rw h.0
    (late_first (eqb (impossible content x) 0) (impossible content x) k (operations_fault q m (after content x) (suc k) is) (impossible_late content x)
    (operations_late q m (after content x) (suc k) is h.1))

rows_late : (q : ℕ) (m : Memory) (values : List Content) (k : ℕ) (inits ops : List Input) → Formed q m Starting inits → Formed q m Operating ops
    → late (rows_fault q m values k inits ops).number ≡ true
unfolding rows_fault
rows_late q m values k [] ops h g = operations_late q m (start m values) k ops g
rows_late q m values k (i ∷ is) ops h g = rw h.0 (rows_late q m values (suc k) is ops h.1 g)

pub tested_rows_late : TestedRowsLate
tested_rows_late q m n t lines e =
    let formed = starting q m n t n 0 (map (parse_input q) lines) (omega arith) (lines_single_or_fault q lines) e in
    rows_late q m _ 1 _ _ formed.0 formed.1
