-- The steps of a checker and the whole file: the fresh state, advanced by any parsed rows and ended,
-- reports what the whole-file definition says. A state that has refused or ended is fixed. The answer
-- is 0 exactly when the rows are complete and well-formed and the equations hold.
-- Assumes nothing.
use Prim.Native.Nat.{ℕ, ◌+◌, ◌≤◌}
use native.Mathlib.Omega.{arith}
use mathlib.Core.Path.{◌≡◌, refl, sym, ◌∙◌, ap, ap₂}
use mathlib.Core.Bool.{Bool, true, false, ◌&&◌, not, cond, and-false, false≢true}
use mathlib.Core.List.{List, [], ◌∷◌, ◌++◌, append-nil, append_assoc}
use lib.Dec.{eqb, ltb}
use lib.ListN.{length}
use borrow.Author.Tests.{eqb-true, ne_eqb}
use Rattle.algebra.specs.Hash.{hash_from}
use Rattle.field.specs.Moduli.{modulus_of}
use Rattle.memory.specs.declared.Memory.{Memory}
use Rattle.memory.specs.declared.Row.{Row}
use Rattle.memory.specs.Faults.{Parsed}
use Rattle.std.specs.Prelude.{Ok, Err}
use Rattle.memory.specs.declared.Challenge.{Challenge}
use Rattle.memory.specs.declared.Context.{Context}
use Rattle.memory.specs.declared.Products.{Products}
use Rattle.memory.specs.declared.State.{State}
use Rattle.memory.specs.declared.Lent.{Lent}
use Rattle.memory.specs.declared.Report.{Report}
use Rattle.memory.specs.Bytes.{Line, all_below}
use Rattle.memory.specs.Rows.{allowed, raised, lowered, depth_product, row_below, parse_row, due_after, row_fault, unread_fault, parsed_fault, line_fault}
use Rattle.memory.specs.Gates.{inputs_of, mults_of}
use Rattle.memory.specs.File.{parsed_row, rows_of, parse_rows, Refusal, refusal, first_fault, refused, accepted, balance_report, rows_report, values_fault, values_report}
use Rattle.memory.specs.Step.{raise, takes_rows, due, refuse_at, refuse_next, refuse_last, passed_row, with_context, take_row, take_parsed, step_of, row_of, accepting, end_of, report_of, answer_of, fresh_context, fresh_products, fresh_of, multiplied, steps_of, run_of, lent_step, lent_steps, lent_end, lent_report, lent_answer}
use Rattle.memory.specs.Equations.{file_lists, range_balances, memory_balances}
use Rattle.memory.specs.Bound.{accepts}
use Rattle.memory.specs.Statements.{FoldIsFile, RunIsSteps, LentIsSteps, RunIsFile, FixedState, EndedState, RowAnswered, RefusalStays, AcceptsExactlyWhen, Holds}
use Rattle.memory.proofs.Due.{Passes, due_form}
use Rattle.memory.proofs.Emitted.{context_of, none, emitted, products_of}
use Rattle.memory.proofs.ReadRows.{fault_not_zero}
use Rattle.memory.proofs.Placed.{complete_of_lines}
use Rattle.memory.proofs.Closing.{verdict, closing, closing_is_balance}
use Rattle.memory.proofs.Reached.{state_of, Bounded, bounded_start, bounded_next, next_line, last_line, passed_state, step_fault_lem}

-- a state that takes no rows is fixed
pub fixed_state : FixedState
unfolding step_of end_of
fixed_state q s e = (λ x. rw e, rw e)

-- a context that has refused takes no rows
takes_none : (c : Context) (f l : ℕ) → eqb f 0 ≡ false → takes_rows (refuse_at c f l) ≡ false
unfolding takes_rows refuse_at
takes_none c f l e = rw e (and-false (not c.ended))

-- whatever the tests at the end of file give, the context takes no rows
ended_context : (c : Context) (missing range memory : Bool)
    → takes_rows (cond missing (refuse_next c 7) (cond range (cond memory (accepting c) (refuse_last c 10)) (refuse_last c 9))) ≡ false
unfolding refuse_next refuse_last accepting takes_rows
ended_context c true range memory = takes_none c 7 _ refl
ended_context c false false memory = takes_none c 9 _ refl
ended_context c false true false = takes_none c 10 _ refl
ended_context c false true true = refl

-- after the end of file a state takes no rows
pub ended_state : EndedState
unfolding end_of with_context
ended_state s = pick (takes_rows s.context) refl
  where
    pick : (b : Bool) → takes_rows s.context ≡ b → takes_rows (end_of s).context ≡ false
    pick true e =
        rw e
        (ended_context s.context (ltb s.context.passed (due s.context)) (eqb s.products.supplied s.products.looked)
        (eqb s.products.written s.products.read && eqb s.products.enqueued s.products.dequeued))
    pick false e = rw e e

-- rows leave a fixed state as it is
steps_fixed : (q : ℕ) (s : State) (xs : List Parsed) → takes_rows s.context ≡ false → steps_of q s xs ≡ s
unfolding steps_of
steps_fixed q s [] e = refl
steps_fixed q s (x ∷ xs) e = ap (λ (z : State). steps_of q z xs) ((fixed_state q s e).0 x) ∙ steps_fixed q s xs e

-- whatever follows a refusal, it is what is reported
report_of_refusal : (q : ℕ) (s : State) (f l : ℕ) (xs : List Parsed) → eqb f 0 ≡ false
    → report_of (end_of (steps_of q (with_context s (refuse_at s.context f l)) xs)) ≡ refused f l
unfolding report_of with_context refuse_at
report_of_refusal q s f l xs e =
    ap (λ (z : State). report_of (end_of z)) (steps_fixed q (with_context s (refuse_at s.context f l)) xs (takes_none s.context f l e))
    ∙ (ap report_of (fixed_state q (with_context s (refuse_at s.context f l)) (takes_none s.context f l e)).1
    ∙ rw e)

-- after the end of file no rows are taken, so the answer is what is printed
pub ended_answer : (s : State) → answer_of (end_of s) ≡ report_of (end_of s)
unfolding answer_of
ended_answer s = rw (ended_state s) refl

-- and so it is of a state that is lent
pub lent_ended_answer : (l : Lent) → lent_answer (lent_end l) ≡ lent_report (lent_end l)
unfolding lent_answer lent_report lent_end
lent_ended_answer l = ended_answer l.state

-- what a row answers is the refusal so far,
answered_number : (s : State) → (answer_of s).answer ≡ s.context.answer
unfolding answer_of takes_rows report_of refused
answered_number s = go s.context.ended (eqb s.context.answer 0) refl
  where
    go : (ended none : Bool) → eqb s.context.answer 0 ≡ none
        → (cond (not ended && none) (refused 0 0)
        (cond none (cond ended (record { answer = 0; line = 0; inputs = s.context.inputs; mults = s.context.mults }) (refused 7 (raise s.context.passed 4)))
        (refused s.context.answer s.context.line))).answer
        ≡ s.context.answer
    go true true e = sym (eqb-true s.context.answer 0 e)
    go true false e = refl
    go false true e = sym (eqb-true s.context.answer 0 e)
    go false false e = refl

-- 0 and 0 where there is none, and what is printed where no rows are taken
pub row_answered : RowAnswered
unfolding answer_of
row_answered q s = record {
  taken = λ e. rw e refl;
  number = answered_number s;
  further = λ e x. ap answer_of ((fixed_state q s e).0 x) ∙ rw e refl;
}

-- no later row alters a refusal: rows and the end of file leave its report
pub refusal_stays : RefusalStays
refusal_stays q s x xs e =
    ap (λ (z : State). report_of (end_of z)) (steps_fixed q (step_of q s x) xs e) ∙ ap report_of (fixed_state q (step_of q s x) e).1

-- lines handed one by one are what they read as, handed one by one
pub run_is_steps : RunIsSteps
unfolding run_of steps_of parse_rows row_of
run_is_steps q s [] = refl
run_is_steps q s (line ∷ lines) = run_is_steps q (step_of q s (parse_row q line)) lines

-- and rows handed to a state that is lent are so at its modulus
lent_steps_lem : (l : Lent) (xs : List Parsed) → lent_steps l xs ≡ record { field = l.field; state = steps_of (modulus_of l.field) l.state xs }
unfolding lent_steps lent_step steps_of
lent_steps_lem l [] = refl
lent_steps_lem l (x ∷ xs) = lent_steps_lem (lent_step l x) xs

pub lent_is_steps : LentIsSteps
unfolding lent_end lent_answer lent_report
lent_is_steps l xs = record {
  modulus = ap (λ (z : Lent). z.field) (lent_steps_lem l xs);
  rows = ap (λ (z : Lent). z.state) (lent_steps_lem l xs);
  answer = ap (λ (z : Lent). answer_of z.state) (lent_steps_lem l xs);
  printed = ap (λ (z : Lent). report_of z.state) (lent_steps_lem l xs);
  report = ap (λ (z : Lent). report_of (end_of z.state)) (lent_steps_lem l xs);
}

-- a refusal, or where there is none a report
unfoldable pub unless : Refusal → Report → Report
unless f r = cond (eqb f.number 0) r (refused f.number f.line)

-- the end of file after rows that have passed
end_of_rows : (q : ℕ) (m : Memory) (n t : ℕ) (ch : Challenge) (rows : List Row) → Bounded n t rows
    → report_of (end_of (state_of q m n t ch rows)) ≡ unless (first_fault q m n t rows []) (closing q m n t ch rows)
unfolding end_of state_of context_of takes_rows due due_after first_fault closing verdict report_of with_context refuse_next refuse_last refuse_at accepting unless refusal accepted
end_of_rows q m n t ch rows b =
    pick (ltb (length rows) (due_after m n t rows)) (eqb ps.supplied ps.looked) (eqb ps.written ps.read && eqb ps.enqueued ps.dequeued)
  where
    ps : Products
    ps = products_of q ch (emitted q m n t [] rows)

    pick : (missing range memory : Bool)
        → report_of
        (with_context (state_of q m n t ch rows)
        (cond missing (refuse_next (context_of q m n t rows) 7)
        (cond range (cond memory (accepting (context_of q m n t rows)) (refuse_last (context_of q m n t rows) 10)) (refuse_last (context_of q m n t rows) 9))))
        ≡ unless (cond missing (refusal 7 (length rows + 4)) (refusal 0 0))
        (cond range (cond memory (accepted m rows) (refused 10 (length rows + 3))) (refused 9 (length rows + 3)))
    pick true range memory = ap (refused 7) (next_line b)
    pick false false memory = ap (refused 9) (last_line b)
    pick false true false = ap (refused 10) (last_line b)
    pick false true true = refl

-- the next line after rows that have passed: surplus, at fault, or a row
step_surplus : (q : ℕ) (m : Memory) (n t : ℕ) (ch : Challenge) (rows : List Row) (x : Parsed) → ltb (length rows) (due_after m n t rows) ≡ false
    → step_of q (state_of q m n t ch rows) x ≡ with_context (state_of q m n t ch rows) (refuse_next (context_of q m n t rows) 7)
unfolding step_of state_of context_of takes_rows due due_after
step_surplus q m n t ch rows x e = rw e

step_fault_line : (q : ℕ) (m : Memory) (n t : ℕ) (ch : Challenge) (rows : List Row) (f : ℕ) → ltb (length rows) (due_after m n t rows) ≡ true
    → step_of q (state_of q m n t ch rows) (Err f)
    ≡ with_context (state_of q m n t ch rows) (refuse_next (context_of q m n t rows) (unread_fault f))
unfolding step_of state_of context_of takes_rows due due_after take_parsed
step_fault_line q m n t ch rows f e = rw e

step_large : (q : ℕ) (m : Memory) (n t : ℕ) (ch : Challenge) (rows : List Row) (row : Row) → ltb (length rows) (due_after m n t rows) ≡ true
    → row_below q row ≡ false
    → step_of q (state_of q m n t ch rows) (Ok row) ≡ with_context (state_of q m n t ch rows) (refuse_next (context_of q m n t rows) 3)
unfolding step_of state_of context_of takes_rows due due_after take_parsed
step_large q m n t ch rows row e large = rw (e, large)

step_row : (q : ℕ) (m : Memory) (n t : ℕ) (ch : Challenge) (rows : List Row) (row : Row) → ltb (length rows) (due_after m n t rows) ≡ true
    → row_below q row ≡ true → Bounded n t rows
    → step_of q (state_of q m n t ch rows) (Ok row)
    ≡ cond (eqb (row_fault q m n t rows row) 0) (passed_row q (state_of q m n t ch rows) row)
    (with_context (state_of q m n t ch rows) (refuse_next (context_of q m n t rows) (row_fault q m n t rows row)))
unfolding step_of state_of context_of takes_rows due due_after take_parsed take_row
step_row q m n t ch rows row e r b = rw (e, r, ← (step_fault_lem q m n t rows row b))

-- the fault of a surplus line and of one that is due
line_surplus : (q : ℕ) (m : Memory) (n t : ℕ) (rows : List Row) (x : Parsed) → ltb (length rows) (due_after m n t rows) ≡ false
    → line_fault q m n t rows x ≡ 7
unfolding line_fault
line_surplus q m n t rows x e = rw e

line_fault_lem : (q : ℕ) (m : Memory) (n t : ℕ) (rows : List Row) (f : ℕ) → ltb (length rows) (due_after m n t rows) ≡ true
    → line_fault q m n t rows (Err f) ≡ unread_fault f
unfolding line_fault parsed_fault
line_fault_lem q m n t rows f e = rw e

line_large : (q : ℕ) (m : Memory) (n t : ℕ) (rows : List Row) (row : Row) → ltb (length rows) (due_after m n t rows) ≡ true → row_below q row ≡ false
    → line_fault q m n t rows (Ok row) ≡ 3
unfolding line_fault parsed_fault
line_large q m n t rows row e large = rw (e, large)

line_row : (q : ℕ) (m : Memory) (n t : ℕ) (rows : List Row) (row : Row) → ltb (length rows) (due_after m n t rows) ≡ true → row_below q row ≡ true
    → line_fault q m n t rows (Ok row) ≡ row_fault q m n t rows row
unfolding line_fault parsed_fault
line_row q m n t rows row e small = rw (e, small)

-- a first fault is the refusal; a line without one leaves it to the rest
unless_fault : (f l : ℕ) (rest : Refusal) (r : Report) → eqb f 0 ≡ false → unless (cond (eqb f 0) rest (refusal f l)) r ≡ refused f l
unfolding unless refusal
unless_fault f l rest r e = simp e

first_fault_lem : (q : ℕ) (m : Memory) (n t : ℕ) (rows : List Row) (x : Parsed) (xs : List Parsed) (r : Report) (f : ℕ)
    → line_fault q m n t rows x ≡ f → eqb f 0 ≡ false → unless (first_fault q m n t rows (x ∷ xs)) r ≡ refused f (length rows + 4)
unfolding first_fault
first_fault_lem q m n t rows x xs r f e z =
    unless_fault (line_fault q m n t rows x) (length rows + 4) _ r (ap (λ (g : ℕ). eqb g 0) e ∙ z)
    ∙ ap (λ (g : ℕ). refused g (length rows + 4)) e

first_rest : (q : ℕ) (m : Memory) (n t : ℕ) (rows : List Row) (x : Parsed) (xs : List Parsed) → line_fault q m n t rows x ≡ 0
    → first_fault q m n t rows (x ∷ xs) ≡ first_fault q m n t (rows ++ parsed_row x ∷ []) xs
unfolding first_fault
first_rest q m n t rows x xs e = rw e

-- a refused line is reported, whatever follows
refused_line : (q : ℕ) (m : Memory) (n t : ℕ) (ch : Challenge) (rows : List Row) (f : ℕ) (xs : List Parsed) → Bounded n t rows → eqb f 0 ≡ false
    → report_of (end_of (steps_of q (with_context (state_of q m n t ch rows) (refuse_next (context_of q m n t rows) f)) xs)) ≡ refused f (length rows + 4)
unfolding refuse_next state_of context_of
refused_line q m n t ch rows f xs b e =
    report_of_refusal q (state_of q m n t ch rows) f (raise (length rows) 4) xs e ∙ ap (refused f) (next_line b)

-- what is reported of the lines xs after rows that have passed, and what the rows' faults and their running products say of them
pub record Folds (q : ℕ) (m : Memory) (n t : ℕ) (ch : Challenge) (rows : List Row) (xs : List Parsed) : Type 0 where
  pub folds :
      report_of (end_of (steps_of q (state_of q m n t ch rows) xs)) ≡ unless (first_fault q m n t rows xs) (closing q m n t ch (rows ++ rows_of xs))

-- a row that passes leaves it to the rest
fold_pass : (q : ℕ) (m : Memory) (n t : ℕ) (ch : Challenge) (rows : List Row) (row : Row) (xs : List Parsed)
    → ltb (length rows) (due_after m n t rows) ≡ true → row_below q row ≡ true → row_fault q m n t rows row ≡ 0 → Bounded n t rows
    → (Bounded n t (rows ++ row ∷ []) → Folds q m n t ch (rows ++ row ∷ []) xs)
    → Folds q m n t ch rows (Ok row ∷ xs)
unfolding steps_of parsed_row rows_of
fold_pass q m n t ch rows row xs e r z b rest = record {
  folds =
      ap (λ (s : State). report_of (end_of (steps_of q s xs))) taken
      ∙ ((rest (bounded_next q m n t rows row passes b)).folds
      ∙ sym (ap₂ unless (first_rest q m n t rows (Ok row) xs (line_row q m n t rows row e r ∙ z)) (ap (closing q m n t ch) (sym (append_assoc rows (row ∷ []) (rows_of xs))))));
}
  where
    passes : Passes q m n t rows row
    passes = record { due = e; fault = z }

    taken : step_of q (state_of q m n t ch rows) (Ok row) ≡ state_of q m n t ch (rows ++ row ∷ [])
    taken = step_row q m n t ch rows row e r b ∙ (rw z (passed_state q m n t ch rows row (due_form passes) b))

-- one line, and then the lines after it
fold_line : (q : ℕ) (m : Memory) (n t : ℕ) (ch : Challenge) (rows : List Row) (x : Parsed) (xs : List Parsed) → Bounded n t rows
    → ((row : Row) → Bounded n t (rows ++ row ∷ []) → Folds q m n t ch (rows ++ row ∷ []) xs)
    → Folds q m n t ch rows (x ∷ xs)
unfolding steps_of
fold_line q m n t ch rows x xs b rest = pick (ltb (length rows) (due_after m n t rows)) refl x
  where
    refuses : (y : Parsed) (f : ℕ)
        → step_of q (state_of q m n t ch rows) y ≡ with_context (state_of q m n t ch rows) (refuse_next (context_of q m n t rows) f)
        → line_fault q m n t rows y ≡ f → eqb f 0 ≡ false → Folds q m n t ch rows (y ∷ xs)
    refuses y f s e z = record {
      folds =
          ap (λ (x : State). report_of (end_of (steps_of q x xs))) s
          ∙ (refused_line q m n t ch rows f xs b z ∙ sym (first_fault_lem q m n t rows y xs _ f e z));
    }

    take_row_lem : (row : Row) → ltb (length rows) (due_after m n t rows) ≡ true → (s : Bool) → row_below q row ≡ s → (z : Bool) → eqb (row_fault q m n t rows row) 0 ≡ z
        → Folds q m n t ch rows (Ok row ∷ xs)
    take_row_lem row e false r z g = refuses (Ok row) 3 (step_large q m n t ch rows row e r) (line_large q m n t rows row e r) refl
    take_row_lem row e true r true z = fold_pass q m n t ch rows row xs e r (eqb-true _ 0 z) b (rest row)
    take_row_lem row e true r false z =
        refuses (Ok row) (row_fault q m n t rows row) (step_row q m n t ch rows row e r b ∙ rw z) (line_row q m n t rows row e r) z

    pick : (d : Bool) → ltb (length rows) (due_after m n t rows) ≡ d → (y : Parsed) → Folds q m n t ch rows (y ∷ xs)
    pick false e y = refuses y 7 (step_surplus q m n t ch rows y e) (line_surplus q m n t rows y e) refl
    pick true e (Err f) = refuses (Err f) (unread_fault f) (step_fault_line q m n t ch rows f e) (line_fault_lem q m n t rows f e) (ne_eqb _ 0 (fault_not_zero f))
    pick true e (Ok row) = take_row_lem row e (row_below q row) refl (eqb (row_fault q m n t rows row) 0) refl

-- every list of what lines can read as
fold_rows : (q : ℕ) (m : Memory) (n t : ℕ) (ch : Challenge) (rows : List Row) (xs : List Parsed) → Bounded n t rows → Folds q m n t ch rows xs
unfolding steps_of rows_of
fold_rows q m n t ch rows [] b =
    record { folds = end_of_rows q m n t ch rows b ∙ ap (λ (z : List Row). unless (first_fault q m n t rows []) (closing q m n t ch z)) (sym (append-nil rows)) }
fold_rows q m n t ch rows (x ∷ xs) b = fold_line q m n t ch rows x xs b (λ row. fold_rows q m n t ch (rows ++ row ∷ []) xs)

-- of rows without a first fault the running products answer what the equations do
unless_balance : (q : ℕ) (m : Memory) (n t : ℕ) (ch : Challenge) (xs : List Parsed) → 2 ≤ q → allowed m n t ≡ true
    → unless (first_fault q m n t [] xs) (closing q m n t ch (rows_of xs)) ≡ rows_report q m n t ch xs
unfolding unless rows_report
unless_balance q m n t ch xs le a = pick (eqb (first_fault q m n t [] xs).number 0) refl
  where
    pick : (b : Bool) → eqb (first_fault q m n t [] xs).number 0 ≡ b
        → unless (first_fault q m n t [] xs) (closing q m n t ch (rows_of xs)) ≡ rows_report q m n t ch xs
    pick true e = rw e (closing_is_balance q m n t ch (rows_of xs) le a (complete_of_lines q m n t [] xs (eqb-true _ 0 e)))
    pick false e = rw e

-- a fresh state, where the values have no fault and where they have one
fresh_state : (q : ℕ) (m : Memory) (n t : ℕ) (ch : Challenge) → values_fault q m n t ch ≡ 0 → fresh_of q m n t ch ≡ state_of q m n t ch []
unfolding fresh_of fresh_context fresh_products state_of context_of emitted none products_of raised lowered depth_product inputs_of mults_of multiplied hash_from
fresh_state q m n t ch e = rw e

report_of_values : (q : ℕ) (m : Memory) (n t : ℕ) (ch : Challenge) (xs : List Parsed) → eqb (values_fault q m n t ch) 0 ≡ false
    → report_of (end_of (steps_of q (fresh_of q m n t ch) xs)) ≡ refused (values_fault q m n t ch) 2
unfolding fresh_of fresh_context takes_rows report_of
report_of_values q m n t ch xs e =
    ap (λ (z : State). report_of (end_of z)) (steps_fixed q (fresh_of q m n t ch) xs e)
    ∙ (ap report_of (fixed_state q (fresh_of q m n t ch) e).1 ∙ simp e)

-- values without a fault are allowed
allowed_of_values : (q : ℕ) (m : Memory) (n t : ℕ) (ch : Challenge) → values_fault q m n t ch ≡ 0 → allowed m n t ≡ true
unfolding values_fault
allowed_of_values q m n t ch e = pick (all_below q (n ∷ t ∷ ch.r ∷ ch.a ∷ ch.b ∷ ch.c ∷ [])) (allowed m n t) e
  where
    pick : (a b : Bool) → ◌≡◌ {A = ℕ} (cond a (cond b 0 4) 3) 0 → b ≡ true
    pick true true z = refl
    pick true false z = absurd (omega arith)
    pick false b z = absurd (omega arith)

-- the steps report what the whole-file definition says
pub fold_is_file : FoldIsFile
unfolding values_report
fold_is_file q m n t ch xs le = pick (eqb (values_fault q m n t ch) 0) refl
  where
    pick : (b : Bool) → eqb (values_fault q m n t ch) 0 ≡ b → report_of (end_of (steps_of q (fresh_of q m n t ch) xs)) ≡ values_report q m n t ch xs
    pick false e = report_of_values q m n t ch xs e ∙ rw e
    pick true e =
        let z : values_fault q m n t ch ≡ 0 = eqb-true (values_fault q m n t ch) 0 e in
        let a = allowed_of_values q m n t ch z in
        ap (λ (s : State). report_of (end_of (steps_of q s xs))) (fresh_state q m n t ch z)
        ∙ ((fold_rows q m n t ch [] xs (bounded_start m n t a)).folds ∙ (unless_balance q m n t ch xs le a ∙ rw e))

-- and so do lines, each read and handed on
pub run_is_file : RunIsFile
run_is_file q m n t ch lines le =
    ap (λ (s : State). report_of (end_of s)) (run_is_steps q (fresh_of q m n t ch) lines) ∙ fold_is_file q m n t ch (parse_rows q lines) le

-- an answer is 0 where a fault is 0 and the answer after it is, and where both tests at the end pass
pub zero_of_refused : (f l : ℕ) (r : Report) → eqb (cond (eqb f 0) r (refused f l)).answer 0 ≡ true → (f ≡ 0) × (eqb r.answer 0 ≡ true)
unfolding refused
zero_of_refused f l r e = pick (eqb f 0) refl
  where
    pick : (b : Bool) → eqb f 0 ≡ b → (f ≡ 0) × (eqb r.answer 0 ≡ true)
    pick true z = (eqb-true f 0 z, rw z at e)
    pick false z = absurd (false≢true (sym z ∙ rw z at e))

zero_of_balance : (q : ℕ) (m : Memory) (n t : ℕ) (ch : Challenge) (rows : List Row) → eqb (balance_report q m n t ch rows).answer 0 ≡ true
    → (range_balances q ch (file_lists q m n t rows) ≡ true) × (memory_balances q ch (file_lists q m n t rows) ≡ true)
unfolding balance_report refused
zero_of_balance q m n t ch rows e = pick (range_balances q ch (file_lists q m n t rows)) (memory_balances q ch (file_lists q m n t rows)) e
  where
    pick : (a b : Bool)
        → eqb (cond a (cond b (accepted m rows) (refused 10 (length rows + 3))) (refused 9 (length rows + 3))).answer 0 ≡ true → (a ≡ true) × (b ≡ true)
    pick true true z = (refl, refl)
    pick true false z = absurd (false≢true z)
    pick false b z = absurd (false≢true z)

-- a challenge accepts where the whole file's answer is 0
accepts_is_answer : (q : ℕ) (m : Memory) (n t : ℕ) (ch : Challenge) (xs : List Parsed) → 2 ≤ q
    → accepts q m n t xs ch ≡ eqb (values_report q m n t ch xs).answer 0
unfolding accepts
accepts_is_answer q m n t ch xs le = ap (λ (r : Report). eqb r.answer 0) (fold_is_file q m n t ch xs le)

-- it is 0 exactly where the equations hold
pub holds_of_answer : (q : ℕ) (m : Memory) (n t : ℕ) (ch : Challenge) (xs : List Parsed)
    → eqb (values_report q m n t ch xs).answer 0 ≡ true → Holds q m n t ch xs
unfolding values_report rows_report
holds_of_answer q m n t ch xs e =
    let first = zero_of_refused (values_fault q m n t ch) 2 (rows_report q m n t ch xs) e in
    let second = zero_of_refused (first_fault q m n t [] xs).number (first_fault q m n t [] xs).line (balance_report q m n t ch (rows_of xs)) first.1 in
    let third = zero_of_balance q m n t ch (rows_of xs) second.1 in
    record { values = first.0; rows = second.0; range = third.0; memory = third.1 }

pub answer_of_holds : (q : ℕ) (m : Memory) (n t : ℕ) (ch : Challenge) (xs : List Parsed) → Holds q m n t ch xs
    → eqb (values_report q m n t ch xs).answer 0 ≡ true
unfolding values_report rows_report balance_report accepted
answer_of_holds q m n t ch xs h = rw (h.values, h.rows, h.range, h.memory)

-- a challenge accepts lines where the end of file answers 0 after each was read and handed on
pub accepts_lines : (q : ℕ) (m : Memory) (n t : ℕ) (ch : Challenge) (lines : List Line)
    → accepts q m n t (parse_rows q lines) ch ≡ eqb (report_of (end_of (run_of q (fresh_of q m n t ch) lines))).answer 0
unfolding accepts
accepts_lines q m n t ch lines = ap (λ (s : State). eqb (report_of (end_of s)).answer 0) (sym (run_is_steps q (fresh_of q m n t ch) lines))

-- demand 2
pub accepts_exactly_when : AcceptsExactlyWhen
accepts_exactly_when q m n t ch xs le = (
  λ e. holds_of_answer q m n t ch xs (sym (accepts_is_answer q m n t ch xs le) ∙ e),
  λ h. accepts_is_answer q m n t ch xs le ∙ answer_of_holds q m n t ch xs h,
)
