-- Which ops are due: an op that is due in a phase is one of the phase's ops, the phase of a row by its place, and what a row that has passed
-- tells of its op and its guard.
-- Assumes nothing.
use Prim.Native.Nat.{ℕ, ◌+◌, ◌≤◌, ◌<◌}
use native.Mathlib.Omega.{arith}
use mathlib.Core.Path.{◌≡◌, refl, sym, ◌∙◌, ap, subst}
use mathlib.Core.Bool.{Bool, true, false, ◌&&◌, ◌||◌, cond, false≢true, or-false, and-eq-true_iff}
use mathlib.Core.List.{List, [], ◌∷◌, ◌++◌}
use lib.Dec.{eqb, leb, ltb}
use lib.ListN.{length, get_or}
use borrow.Author.Tests.{leb-true, eqb-true, lt-ltb, le-ltb}
use Rattle.memory.specs.declared.Memory.{Memory}
use Rattle.memory.specs.declared.Op.{Op}
use Rattle.memory.specs.declared.Op.TheVariants.{Init, Access, Look, Member, Push, Pop, Enqueue, Dequeue, End, Range, Other}
use Rattle.memory.specs.declared.Phase.{Phase}
use Rattle.memory.specs.declared.Phase.TheVariants.{Starting, Operating, Ending, Ranging, Over}
use Rattle.memory.specs.declared.Row.{Row}
use Rattle.memory.specs.Names.{op_code, is_op}
use Rattle.memory.specs.Rows.{raise_by, lower_by, phase_at, ops_due, op_in, formed, sunk, due_after, phase_after, row_fault}

-- the op of a code
op_of : ℕ → Op
op_of k = get_or (Init ∷ Access ∷ Look ∷ Member ∷ Push ∷ Pop ∷ Enqueue ∷ Dequeue ∷ End ∷ Range ∷ []) k Other

op_of_code : (o : Op) → op_of (op_code o) ≡ o
unfolding op_of op_code
op_of_code Init = refl
op_of_code Access = refl
op_of_code Look = refl
op_of_code Member = refl
op_of_code Push = refl
op_of_code Pop = refl
op_of_code Enqueue = refl
op_of_code Dequeue = refl
op_of_code End = refl
op_of_code Range = refl
op_of_code Other = refl

-- ops that the test finds the same are equal
pub op_of_test : (o x : Op) → is_op o x ≡ true → o ≡ x
unfolding is_op
op_of_test o x e = sym (op_of_code o) ∙ (ap op_of (eqb-true (op_code o) (op_code x) e) ∙ op_of_code x)

-- an op that is one of one, one of two, and one of none
pub op_of_one : (o x : Op) → op_in o (x ∷ []) ≡ true → o ≡ x
unfolding op_in
op_of_one o x e = op_of_test o x (sym (or-false (is_op o x)) ∙ e)

pub op_of_two : (P : Op → Type 0) (o x y : Op) → op_in o (x ∷ y ∷ []) ≡ true → P x → P y → P o
unfolding op_in
op_of_two P o x y e px py = pick (is_op o x) refl
  where
    pick : (b : Bool) → is_op o x ≡ b → P o
    pick true d = subst P (sym (op_of_test o x d)) px
    pick false d = subst P (sym (op_of_one o y (subst (λ (c : Bool). (c || op_in o (y ∷ [])) ≡ true) d e))) py

pub op_of_none : {A : Type 0} (o : Op) → op_in o [] ≡ true → A
unfolding op_in
op_of_none o e = absurd (false≢true e)

-- the phases after the operations
abbrev pub Late : Phase → Type 0
Late Starting = ⊥
Late Operating = ⊥
Late Ending = Unit {0}
Late Ranging = Unit {0}
Late Over = Unit {0}

late_cond : (a b : Bool) → Late (cond a Ending (cond b Ranging Over))
late_cond true b = tt
late_cond false true = tt
late_cond false false = tt

pub late_phase : (n t e r k : ℕ) → n + t ≤ k → Late (phase_at n t e r k)
unfolding phase_at
late_phase n t e r k le =
    rw (le-ltb k n (omega arith), le-ltb k (n + t) le) (late_cond (ltb k (n + t + e)) (ltb k (n + t + e + r)))

-- an op that neither raises nor lowers the depth
pub record Quiet (o : Op) : Type 0 where
  pub raises : (g : ℕ) → raise_by o g ≡ 0
  pub lowers : (g : ℕ) → lower_by o g ≡ 0

quiet_end : Quiet End
unfolding raise_by lower_by is_op op_code
quiet_end = record { raises = λ g. refl; lowers = λ g. refl }

quiet_range : Quiet Range
unfolding raise_by lower_by is_op op_code
quiet_range = record { raises = λ g. refl; lowers = λ g. refl }

-- after the operations no op raises or lowers the depth
pub quiet_late : (m : Memory) (ph : Phase) (o : Op) → Late ph → op_in o (ops_due m ph) ≡ true → Quiet o
unfolding ops_due
quiet_late m Starting o l e = absurd l
quiet_late m Operating o l e = absurd l
quiet_late m Ending o l e = subst Quiet (sym (op_of_one o End e)) quiet_end
quiet_late m Ranging o l e = subst Quiet (sym (op_of_one o Range e)) quiet_range
quiet_late m Over o l e = op_of_none o e

-- where a phase begins, and how many rows it has
unfoldable pub begins : ℕ → ℕ → ℕ → ℕ → Phase → ℕ
begins n t e r Starting = 0
begins n t e r Operating = n
begins n t e r Ending = n + t
begins n t e r Ranging = n + t + e
begins n t e r Over = n + t + e + r

unfoldable pub spans : ℕ → ℕ → ℕ → ℕ → Phase → ℕ
spans n t e r Starting = n
spans n t e r Operating = t
spans n t e r Ending = e
spans n t e r Ranging = r
spans n t e r Over = 0

-- a row in the span of a phase is in that phase
pub phase_in_span : (n t e r k : ℕ) (ph : Phase) → k < spans n t e r ph → phase_at n t e r (begins n t e r ph + k) ≡ ph
unfolding phase_at begins spans
phase_in_span n t e r k Starting lt = rw (lt-ltb (0 + k) n (omega arith))
phase_in_span n t e r k Operating lt = rw (le-ltb (n + k) n (omega arith), lt-ltb (n + k) (n + t) (omega arith))
phase_in_span n t e r k Ending lt =
    rw (le-ltb (n + t + k) n (omega arith), le-ltb (n + t + k) (n + t) (omega arith), lt-ltb (n + t + k) (n + t + e) (omega arith))
phase_in_span n t e r k Ranging lt =
    rw (le-ltb (n + t + e + k) n (omega arith), le-ltb (n + t + e + k) (n + t) (omega arith), le-ltb (n + t + e + k) (n + t + e) (omega arith), lt-ltb (n + t + e + k) (n + t + e + r) (omega arith))
phase_in_span n t e r k Over lt = absurd (omega arith)

-- A row that passes after others: it is due, and it has no fault
pub record Passes (q : ℕ) (m : Memory) (n t : ℕ) (rows : List Row) (row : Row) : Type 0 where
  pub due : ltb (length rows) (due_after m n t rows) ≡ true
  pub fault : row_fault q m n t rows row ≡ 0

no_fault : (a b c : Bool) → ◌≡◌ {A = ℕ} (cond a (cond b (cond c 8 0) 6) 5) 0 → (a ≡ true) × (b ≡ true)
no_fault true true c e = (refl, refl)
no_fault true false c e = absurd (omega arith)
no_fault false b c e = absurd (omega arith)

-- its op is due, and it has its form
no_row_fault : (q : ℕ) (m : Memory) (n t : ℕ) (rows : List Row) (row : Row) → row_fault q m n t rows row ≡ 0
    → (op_in row.op (ops_due m (phase_after m n t rows)) ≡ true) × (formed m row ≡ true)
unfolding row_fault
no_row_fault q m n t rows row e =
    no_fault (op_in row.op (ops_due m (phase_after m n t rows))) (formed m row)
    (leb 1 t && (eqb (length rows + 1) (n + t) && sunk q m (rows ++ row ∷ []))) e

pub due_op : {q : ℕ} {m : Memory} {n t : ℕ} {rows : List Row} {row : Row} → Passes q m n t rows row → op_in row.op (ops_due m (phase_after m n t rows)) ≡ true
due_op p = (no_row_fault _ _ _ _ _ _ p.fault).0

pub due_form : {q : ℕ} {m : Memory} {n t : ℕ} {rows : List Row} {row : Row} → Passes q m n t rows row → formed m row ≡ true
due_form p = (no_row_fault _ _ _ _ _ _ p.fault).1

-- the guard of a row that has its form is at most 1
guard_of_form : (m : Memory) (row : Row) → formed m row ≡ true → row.guard ≤ 1
unfolding formed
guard_of_form m row e = leb-true row.guard 1 ((and-eq-true_iff _ _).0 ((and-eq-true_iff _ _).0 e).0).0

cond_bound : (b : Bool) (g : ℕ) → g ≤ 1 → cond b g 0 ≤ 1
cond_bound true g le = le
cond_bound false g le = omega arith

pub raise_of_form : (m : Memory) (row : Row) → formed m row ≡ true → raise_by row.op row.guard ≤ 1
unfolding raise_by
raise_of_form m row e = cond_bound (is_op row.op Push || is_op row.op Enqueue) row.guard (guard_of_form m row e)

pub lower_of_form : (m : Memory) (row : Row) → formed m row ≡ true → lower_by row.op row.guard ≤ 1
unfolding lower_by
lower_of_form m row e = cond_bound (is_op row.op Pop || is_op row.op Dequeue) row.guard (guard_of_form m row e)

-- after the operations it is quiet
pub quiet_after : {q : ℕ} {m : Memory} {n t : ℕ} {rows : List Row} {row : Row} → Passes q m n t rows row → n + t ≤ length rows → Quiet row.op
unfolding phase_after
quiet_after {m} {n} {t} {rows} {row} p le = quiet_late m _ row.op (late_phase n t _ _ (length rows) le) (due_op p)
