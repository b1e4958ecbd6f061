-- The answer and what is malformed: what meets one of 1 to 7 is answered so at every challenge, and
-- what is not malformed by 0, 8, 9 or 10; its rows meet no fault, or 8.
-- Assumes nothing.
use Prim.Native.Nat.{ℕ, ◌+◌, ◌≤◌}
use mathlib.Core.Path.{◌≡◌, refl, ap, sym, subst, ◌∙◌}
use mathlib.Core.Logic.{◌⊎◌, inl, inr}
use mathlib.Core.Bool.{Bool, true, false, ◌&&◌, ◌||◌, not, cond, false≢true, true≢false}
use mathlib.Core.List.{List, [], ◌∷◌, ◌++◌}
use native.Mathlib.Omega.{arith}
use lib.Dec.{eqb, leb, ltb}
use lib.ListN.{length}
use borrow.Author.Tests.{eqb-true, leb-false}
use Rattle.memory.specs.declared.Memory.{Memory}
use Rattle.memory.specs.declared.Row.{Row}
use Rattle.memory.specs.Faults.{Parsed}
use Rattle.std.specs.Prelude.{Ok, Err}
use Rattle.memory.specs.declared.Challenge.{Challenge}
use Rattle.memory.specs.declared.Report.{Report}
use Rattle.memory.specs.Bytes.{all_below}
use Rattle.memory.specs.Rows.{allowed, ops_due, op_in, formed, row_below, sunk, due_after, phase_after, fault_by, row_fault, parsed_fault, line_fault}
use Rattle.memory.specs.Equations.{file_lists, range_balances, memory_balances}
use Rattle.memory.specs.File.{rows_of, parsed_row, Refusal, refusal, first_fault, refused, accepted, balance_report, rows_report, values_fault, values_report}
use Rattle.memory.specs.Bound.{malformed}
use Rattle.memory.specs.Statements.{MalformedAnswered, WellFormedAnswered}
use Rattle.memory.proofs.ReadFields.{chosen}
use Rattle.memory.proofs.ReadRows.{neither_passes}
use Rattle.memory.proofs.Fold.{fold_is_file}

-- one of 1 to 7
abbrev early : ℕ → Bool
early a = leb 1 a && leb a 7

-- at the end of file there is none of these
balance_late : (q : ℕ) (m : Memory) (n t : ℕ) (ch : Challenge) (rows : List Row) → early (balance_report q m n t ch rows).answer ≡ false
unfolding balance_report refused accepted
balance_late q m n t ch rows = pick (range_balances q ch (file_lists q m n t rows)) (memory_balances q ch (file_lists q m n t rows))
  where
    pick : (a b : Bool) → early (cond a (cond b (accepted m rows) (refused 10 (length rows + 3))) (refused 9 (length rows + 3))).answer ≡ false
    pick true true = refl
    pick true false = refl
    pick false b = refl

-- so a fault of the rows is one of them where the answer is
rows_early : (f l : ℕ) (r : Report) → early r.answer ≡ false → early f ≡ early (cond (eqb f 0) r (refused f l)).answer
unfolding refused
rows_early f l r none = pick (eqb f 0) refl
  where
    pick : (b : Bool) → eqb f 0 ≡ b → early f ≡ early (cond b r (refused f l)).answer
    pick true z = ap early (eqb-true f 0 z) ∙ sym none
    pick false z = refl

-- and values that are at fault are answered by 3 or 4
values_early : (size count inside fit : Bool) (f : ℕ) (r : Report) → inside ≡ true → early f ≡ early r.answer
    → (not ((size && (count && true)) && fit) || early f)
    ≡ early (cond (eqb (cond (size && (count && inside)) (cond fit 0 4) 3) 0) r (refused (cond (size && (count && inside)) (cond fit 0 4) 3) 2)).answer
unfolding refused
values_early true true true true f r e same = same
values_early true true true false f r e same = refl
values_early true false i fit f r e same = refl
values_early false count i fit f r e same = refl
values_early true true false fit f r e same = absurd (false≢true e)

-- malformed is what is answered by one of 1 to 7
pub malformed_answered : MalformedAnswered
unfolding malformed values_report values_fault rows_report all_below
malformed_answered q m n t ch xs two inside =
    let f = first_fault q m n t [] xs in
    values_early (ltb n q) (ltb t q) _ (allowed m n t) f.number (rows_report q m n t ch xs) inside
    (rows_early f.number f.line (balance_report q m n t ch (rows_of xs)) (balance_late q m n t ch (rows_of xs)))
    ∙ ap (λ (r : Report). early r.answer) (sym (fold_is_file q m n t ch xs two))

-- No answer is above 10: the fault of a line is at most 8,
abbrev AtMost : ℕ → ℕ → Type 0
AtMost k x = x ≤ k

fault_most : (n t k : ℕ) (due form sunk : Bool) → fault_by n t k due form sunk ≤ 8
fault_most n t k due form sunk =
    let last = leb 1 t && (eqb (k + 1) (n + t) && sunk) in
    chosen (AtMost 8) due (chosen (AtMost 8) form (chosen (AtMost 8) last (omega arith) (omega arith)) (omega arith)) (omega arith)

parsed_most : (q : ℕ) (m : Memory) (n t : ℕ) (rows : List Row) (x : Parsed) → parsed_fault q m n t rows x ≤ 8
unfolding parsed_fault row_fault
parsed_most q m n t rows (Ok row) =
    chosen (AtMost 8) (row_below q row)
    (fault_most n t (length rows) (op_in row.op (ops_due m (phase_after m n t rows))) (formed m row) (sunk q m (rows ++ row ∷ [])))
    (omega arith)
parsed_most q m n t rows (Err f) = chosen (AtMost 8) (eqb f 3) (omega arith) (omega arith)

line_most : (q : ℕ) (m : Memory) (n t : ℕ) (rows : List Row) (x : Parsed) → line_fault q m n t rows x ≤ 8
unfolding line_fault
line_most q m n t rows x = chosen (AtMost 8) (ltb (length rows) (due_after m n t rows)) (parsed_most q m n t rows x) (omega arith)

-- and so is the first fault,
abbrev NumberAtMost : ℕ → Refusal → Type 0
NumberAtMost k f = f.number ≤ k

first_most : (q : ℕ) (m : Memory) (n t : ℕ) (rows : List Row) (xs : List Parsed) → (first_fault q m n t rows xs).number ≤ 8
unfolding first_fault refusal
first_most q m n t rows [] = chosen (NumberAtMost 8) (ltb (length rows) (due_after m n t rows)) (omega arith) (omega arith)
first_most q m n t rows (x ∷ xs) =
    chosen (NumberAtMost 8) (eqb (line_fault q m n t rows x) 0) (first_most q m n t (rows ++ parsed_row x ∷ []) xs) (line_most q m n t rows x)

-- that of the values at most 4, and at the end of file there are 9 and 10.
abbrev AnswerAtMost : ℕ → Report → Type 0
AnswerAtMost k r = r.answer ≤ k

values_most : (q : ℕ) (m : Memory) (n t : ℕ) (ch : Challenge) → values_fault q m n t ch ≤ 4
unfolding values_fault
values_most q m n t ch = chosen (AtMost 4) (all_below q _) (chosen (AtMost 4) (allowed m n t) (omega arith) (omega arith)) (omega arith)

balance_most : (q : ℕ) (m : Memory) (n t : ℕ) (ch : Challenge) (rows : List Row) → (balance_report q m n t ch rows).answer ≤ 10
unfolding balance_report refused accepted
balance_most q m n t ch rows =
    let l = file_lists q m n t rows in
    chosen (AnswerAtMost 10) (range_balances q ch l) (chosen (AnswerAtMost 10) (memory_balances q ch l) (omega arith) (omega arith)) (omega arith)

answer_most : (q : ℕ) (m : Memory) (n t : ℕ) (ch : Challenge) (xs : List Parsed) → (values_report q m n t ch xs).answer ≤ 10
unfolding values_report rows_report refused
answer_most q m n t ch xs =
    chosen (AnswerAtMost 10) (eqb (values_fault q m n t ch) 0)
    (chosen (AnswerAtMost 10) (eqb (first_fault q m n t [] xs).number 0) (balance_most q m n t ch (rows_of xs)) (omega (arith, first_most q m n t [] xs)))
    (omega (arith, values_most q m n t ch))

-- an answer that is none of 1 to 7
late_answer : (a : ℕ) → early a ≡ false → a ≤ 10 → (a ≡ 0) ⊎ ((8 ≤ a) × (a ≤ 10))
late_answer a none most = go (leb 1 a) refl (leb a 7) refl none
  where
    go : (low : Bool) → leb 1 a ≡ low → (high : Bool) → leb a 7 ≡ high → (low && high) ≡ false → (a ≡ 0) ⊎ ((8 ≤ a) × (a ≤ 10))
    go false l high h e = inl (omega (arith, leb-false 1 a l))
    go true l false h e = inr (omega (arith, leb-false a 7 h), most)
    go true l true h e = absurd (true≢false e)

-- the rows of what is not malformed meet no fault, or 8
pub well_formed_fault :
    (q : ℕ) (m : Memory) (n t : ℕ) (xs : List Parsed) → malformed q m n t xs ≡ false
    → ((first_fault q m n t [] xs).number ≡ 0) ⊎ ((first_fault q m n t [] xs).number ≡ 8)
unfolding malformed
well_formed_fault q m n t xs good =
    let most = first_most q m n t [] xs in
    let none = (neither_passes (not (all_below q (n ∷ t ∷ []) && allowed m n t)) (early (first_fault q m n t [] xs).number) good).1 in
    elim (late_answer (first_fault q m n t [] xs).number none (omega arith)) [
      | inl z ↦ inl z
      | inr late ↦ inr (omega (arith, late.0))
    ]

-- what is not malformed is accepted, or refused by 8, 9 or 10
pub well_formed_answered : WellFormedAnswered
well_formed_answered q m n t ch xs two inside good =
    late_answer _ (sym (malformed_answered q m n t ch xs two inside) ∙ good)
    (subst (λ (r : Report). r.answer ≤ 10) (sym (fold_is_file q m n t ch xs two)) (answer_most q m n t ch xs))
