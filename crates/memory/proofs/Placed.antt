-- Complete and well-formed rows, row by row: each row passes after those before it, its op is one that is due at its place, and the rows end where the
-- last due one does. The number of end rows, read off all rows, is the one that every row after the operations sees.
-- Assumes nothing.
use Prim.Native.Nat.{ℕ, ◌+◌, ◌≤◌, ◌<◌}
use native.Mathlib.Omega.{arith}
use mathlib.Core.Path.{◌≡◌, refl, sym, ◌∙◌, ap, ap₂, subst}
use mathlib.Core.Bool.{Bool, true, false, cond}
use mathlib.Core.List.{List, [], ◌∷◌, ◌++◌, append-nil, append_assoc}
use lib.Dec.{eqb, ltb}
use lib.ListN.{length}
use borrow.Author.Tests.{eqb-true, eqb-false, ltb-true, ltb-false, lt-ltb, le-ltb}
use Rattle.memory.specs.declared.Memory.{Memory}
use Rattle.memory.specs.declared.Phase.{Phase}
use Rattle.memory.specs.declared.Phase.TheVariants.{Over}
use Rattle.memory.specs.declared.Row.{Row}
use Rattle.memory.specs.Faults.{Parsed}
use Rattle.std.specs.Prelude.{Ok, Err}
use Rattle.memory.specs.Rows.{raised, lowered, ends_due, ranges_due, phase_at, ops_due, op_in, row_below, due_after, phase_after, row_fault, unread_fault, parsed_fault, line_fault}
use Rattle.memory.specs.File.{parsed_row, rows_of, Refusal, refusal, first_fault}
use Rattle.memory.proofs.Counted.{length_snoc, raised_snoc, lowered_snoc}
use Rattle.memory.proofs.Due.{Passes, due_op, quiet_after, op_of_none}
use Rattle.memory.proofs.ReadRows.{fault_not_zero, chosen_zero}

-- every row of a list has a property, after those before it
abbrev pub Each : (List Row → Row → Type 0) → List Row → List Row → Type 0
Each P past [] = Unit {0}
Each P past (row ∷ rows) = P past row × Each P (past ++ row ∷ []) rows

pub each_append : (P : List Row → Row → Type 0) (past xs ys : List Row) → Each P past (xs ++ ys) → Each P past xs × Each P (past ++ xs) ys
each_append P past [] ys f = (tt, subst (λ (z : List Row). Each P z ys) (sym (append-nil past)) f)
each_append P past (x ∷ xs) ys f =
    let r = each_append P (past ++ x ∷ []) xs ys f.1 in
    ((f.0, r.0), subst (λ (z : List Row). Each P z ys) (append_assoc past (x ∷ []) xs) r.1)

-- Rows without a fault after those that have passed: each passes, and none is missing
pub record Complete (q : ℕ) (m : Memory) (n t : ℕ) (past rows : List Row) : Type 0 where
  pub each : Each (Passes q m n t) past rows
  pub whole : due_after m n t (past ++ rows) ≤ length (past ++ rows)

-- a line that is not at fault is due and reads as a row
passes_of_line : (q : ℕ) (m : Memory) (n t : ℕ) (past : List Row) (x : Parsed) → line_fault q m n t past x ≡ 0 → Passes q m n t past (parsed_row x)
unfolding line_fault parsed_fault parsed_row
passes_of_line q m n t past (Err f) e =
    absurd (fault_not_zero f (chosen_zero (ltb (length past) (due_after m n t past)) (unread_fault f) 7 (omega arith) e).1)
passes_of_line q m n t past (Ok row) e =
    let here = chosen_zero (ltb (length past) (due_after m n t past)) (cond (row_below q row) (row_fault q m n t past row) 3) 7 (omega arith) e in
    record { due = here.0; fault = (chosen_zero (row_below q row) (row_fault q m n t past row) 3 (omega arith) here.1).1 }

-- where the first fault is none, no row is missing, a line has none, and neither has the rest
none_missing : (b : Bool) (l : ℕ) → (cond b (refusal 7 l) (refusal 0 0)).number ≡ 0 → b ≡ false
unfolding refusal
none_missing true l e = absurd (omega arith)
none_missing false l e = refl

none_first : (f l : ℕ) (rest : Refusal) → (cond (eqb f 0) rest (refusal f l)).number ≡ 0 → (f ≡ 0) × (rest.number ≡ 0)
unfolding refusal
none_first f l rest e = pick (eqb f 0) refl
  where
    pick : (b : Bool) → eqb f 0 ≡ b → (f ≡ 0) × (rest.number ≡ 0)
    pick true z = (eqb-true f 0 z, rw z at e)
    pick false z = absurd (eqb-false f 0 z (rw z at e))

-- lines without a first fault are complete
pub complete_of_lines : (q : ℕ) (m : Memory) (n t : ℕ) (past : List Row) (xs : List Parsed) → (first_fault q m n t past xs).number ≡ 0
    → Complete q m n t past (rows_of xs)
unfolding first_fault rows_of
complete_of_lines q m n t past [] e = record {
  each = tt;
  whole =
      subst (λ (z : List Row). due_after m n t z ≤ length z) (sym (append-nil past))
      (ltb-false (length past) (due_after m n t past) (none_missing (ltb (length past) (due_after m n t past)) (length past + 4) e));
}
complete_of_lines q m n t past (x ∷ xs) e =
    let first = none_first (line_fault q m n t past x) (length past + 4) (first_fault q m n t (past ++ parsed_row x ∷ []) xs) e in
    let rest : Complete q m n t (past ++ parsed_row x ∷ []) (rows_of xs) = complete_of_lines q m n t (past ++ parsed_row x ∷ []) xs first.1 in
    record {
      each = (passes_of_line q m n t past x first.0, rest.each);
      whole = subst (λ (z : List Row). due_after m n t z ≤ length z) (append_assoc past (parsed_row x ∷ []) (rows_of xs)) rest.whole;
    }

-- after the operations the depth stays
late_depth : (q : ℕ) (m : Memory) (n t : ℕ) (past rows : List Row) → Each (Passes q m n t) past rows → n + t ≤ length past
    → (raised (past ++ rows) ≡ raised past) × (lowered (past ++ rows) ≡ lowered past)
late_depth q m n t past [] f le = (ap raised (append-nil past), ap lowered (append-nil past))
late_depth q m n t past (row ∷ rows) f le =
    let quiet = quiet_after f.0 le in
    let rest = late_depth q m n t (past ++ row ∷ []) rows f.1 (omega (arith, length_snoc past row)) in (
      ap raised (sym (append_assoc past (row ∷ []) rows)) ∙ (rest.0 ∙ omega (arith, raised_snoc past row, quiet.raises row.guard)),
      ap lowered (sym (append_assoc past (row ∷ []) rows)) ∙ (rest.1 ∙ omega (arith, lowered_snoc past row, quiet.lowers row.guard)),
    )

-- A row in its place, where e end rows are due: its op is due there, and after the operations the rows before it tell e
pub record Placed (m : Memory) (n t e : ℕ) (past : List Row) (row : Row) : Type 0 where
  pub op : op_in row.op (ops_due m (phase_at n t e (ranges_due m t) (length past))) ≡ true
  pub ends : n + t ≤ length past → ends_due m n (raised past) (lowered past) ≡ e

-- before the end rows the phase does not depend on their number
early_phase : (n t e d r k : ℕ) → k < n + t → phase_at n t e r k ≡ phase_at n t d r k
unfolding phase_at
early_phase n t e d r k lt = rw (lt-ltb k (n + t) lt)

-- a row that passes is in its place
placed_row : (q : ℕ) (m : Memory) (n t e : ℕ) (past : List Row) (row : Row) → Passes q m n t past row
    → (n + t ≤ length past → ends_due m n (raised past) (lowered past) ≡ e) → Placed m n t e past row
unfolding phase_after
placed_row q m n t e past row p late = record {
  op = subst (λ (ph : Phase). op_in row.op (ops_due m ph) ≡ true) (pick (ltb (length past) (n + t)) refl) (due_op p);
  ends = late;
}
  where
    pick : (b : Bool) → ltb (length past) (n + t) ≡ b → phase_after m n t past ≡ phase_at n t e (ranges_due m t) (length past)
    pick true z = early_phase n t _ e (ranges_due m t) (length past) (ltb-true _ _ z)
    pick false z = ap (λ (d : ℕ). phase_at n t d (ranges_due m t) (length past)) (late (ltb-false _ _ z))

-- the end rows that all rows tell
unfoldable pub ends_in : Memory → ℕ → List Row → ℕ
ends_in m n rows = ends_due m n (raised rows) (lowered rows)

pub placed_rows : (q : ℕ) (m : Memory) (n t : ℕ) (past rows all : List Row) → past ++ rows ≡ all → Each (Passes q m n t) past rows
    → Each (Placed m n t (ends_in m n all)) past rows
unfolding ends_in
placed_rows q m n t past [] all e f = tt
placed_rows q m n t past (row ∷ rows) all e f =
    (placed_row q m n t (ends_in m n all) past row f.0 late, placed_rows q m n t (past ++ row ∷ []) rows all (append_assoc past (row ∷ []) rows ∙ e) f.1)
  where
    late : n + t ≤ length past → ends_due m n (raised past) (lowered past) ≡ ends_in m n all
    late le =
        let stays = late_depth q m n t past (row ∷ rows) f le in
        ap₂ (ends_due m n) (sym stays.0 ∙ ap raised e) (sym stays.1 ∙ ap lowered e)

-- no row stands past the last due one
over_phase : (n t e r k : ℕ) → n + t + e + r ≤ k → phase_at n t e r k ≡ Over
unfolding phase_at
over_phase n t e r k le =
    rw (le-ltb k n (omega arith), le-ltb k (n + t) (omega arith), le-ltb k (n + t + e) (omega arith), le-ltb k (n + t + e + r) le)

placed_within : {m : Memory} {n t e : ℕ} {past : List Row} {row : Row} → Placed m n t e past row → length past < n + t + e + ranges_due m t
unfolding ops_due
placed_within {m} {n} {t} {e} {past} {row} p = pick (ltb (length past) (n + t + e + ranges_due m t)) refl
  where
    pick : (b : Bool) → ltb (length past) (n + t + e + ranges_due m t) ≡ b → length past < n + t + e + ranges_due m t
    pick true z = ltb-true _ _ z
    pick false z =
        op_of_none row.op
        (subst (λ (ph : Phase). op_in row.op (ops_due m ph) ≡ true) (over_phase n t e (ranges_due m t) (length past) (ltb-false _ _ z)) p.op)

pub placed_length : (m : Memory) (n t e : ℕ) (past rows : List Row) → Each (Placed m n t e) past rows → length past ≤ n + t + e + ranges_due m t
    → length (past ++ rows) ≤ n + t + e + ranges_due m t
placed_length m n t e past [] f le = subst (λ (z : List Row). length z ≤ n + t + e + ranges_due m t) (sym (append-nil past)) le
placed_length m n t e past (row ∷ rows) f le =
    subst (λ (z : List Row). length z ≤ n + t + e + ranges_due m t) (append_assoc past (row ∷ []) rows)
    (placed_length m n t e (past ++ row ∷ []) rows f.1 (omega (arith, length_snoc past row, placed_within f.0)))
