-- The operation rows of a stack or queue: each row's op is one of the two that are due and its guard is 0 or 1, so a statement about
-- a row is shown by four cases in which the tests on op and guard compute.
-- Assumes nothing.
use Prim.Native.Nat.{ℕ, zero, suc, ◌≤◌}
use mathlib.Core.Path.{◌≡◌, refl, sym, ◌∙◌, ap, subst}
use mathlib.Core.Bool.{Bool, true, false, ◌||◌, false≢true}
use mathlib.Core.List.{List, [], ◌∷◌}
use native.Mathlib.Omega.{arith}
use lib.Dec.{leb}
use borrow.Author.Tests.{eqb-true, leb-true}
use Rattle.memory.specs.declared.Memory.{Memory}
use Rattle.memory.specs.declared.Memory.TheVariants.{Ram, Rom, Set, Stack, Queue}
use Rattle.memory.specs.declared.Op.{Op}
use Rattle.memory.specs.declared.Op.TheVariants.{Init, Access, Look, Member, Push, Pop, Enqueue, Dequeue, End, Range, Other}
use Rattle.memory.specs.declared.Phase.{Phase}
use Rattle.memory.specs.declared.Phase.TheVariants.{Starting, Operating, Ending, Ranging, Over}
use Rattle.memory.specs.declared.Row.{Row}
use Rattle.memory.specs.Names.{op_code, op_coded, is_op}
use Rattle.memory.specs.Rows.{ops_due, op_in}

-- each row's op is due among the operations of the memory, and its guard is 0 or 1
abbrev pub Ops : Memory → List Row → Type 0
Ops m [] = Unit {0}
Ops m (row ∷ rows) = (op_in row.op (ops_due m Operating) ≡ true) × (leb row.guard 1 ≡ true) × Ops m rows

-- the op that an op's number stands for
pub op_coded_lem : (o : Op) → op_coded (op_code o) ≡ o
unfolding op_coded op_code
op_coded_lem Init = refl
op_coded_lem Access = refl
op_coded_lem Look = refl
op_coded_lem Member = refl
op_coded_lem Push = refl
op_coded_lem Pop = refl
op_coded_lem Enqueue = refl
op_coded_lem Dequeue = refl
op_coded_lem End = refl
op_coded_lem Range = refl
op_coded_lem Other = refl

-- ops that pass the test are equal
pub is_op_true : (x y : Op) → is_op x y ≡ true → x ≡ y
unfolding is_op
is_op_true x y e = sym (op_coded_lem x) ∙ (ap op_coded (eqb-true (op_code x) (op_code y) e) ∙ op_coded_lem y)

-- an op that is among some is none that is not
pub not_among : (os : List Op) (x y : Op) → op_in y os ≡ false → op_in x os ≡ true → is_op x y ≡ false
not_among os x y none due = go (is_op x y) refl
  where
    go : (b : Bool) → is_op x y ≡ b → b ≡ false
    go true e = absurd (false≢true (sym none ∙ (ap (λ (k : Op). op_in k os) (sym (is_op_true x y e)) ∙ due)))
    go false e = refl

-- no phase has an op that document 01 does not name
pub other_not_due : (m : Memory) (p : Phase) → op_in Other (ops_due m p) ≡ false
unfolding op_in ops_due is_op op_code
other_not_due m Starting = refl
other_not_due Ram Operating = refl
other_not_due Rom Operating = refl
other_not_due Set Operating = refl
other_not_due Stack Operating = refl
other_not_due Queue Operating = refl
other_not_due m Ending = refl
other_not_due m Ranging = refl
other_not_due m Over = refl

-- a guard of at most 1 is 0 or 1
guard_cases : (P : ℕ → Type 0) → P 1 → P 0 → (g : ℕ) → g ≤ 1 → P g
guard_cases P one none zero h = none
guard_cases P one none (suc zero) h = one
guard_cases P one none (suc (suc g)) h = absurd (omega (arith, h))

-- a statement about one of two ops
either_op : (P : Op → Type 0) (x y o : Op) (a b : Bool) → is_op o x ≡ a → is_op o y ≡ b → ((a || (b || false)) ≡ true) → P x → P y → P o
either_op P x y o true b e d h px py = subst P (sym (is_op_true o x e)) px
either_op P x y o false true e d h px py = subst P (sym (is_op_true o y d)) py
either_op P x y o false false e d h px py = absurd (false≢true h)

-- a statement about an op, one of two, and a guard of at most 1
pub op_cases :
    (P : Op → ℕ → Type 0) (x y : Op) → P x 1 → P x 0 → P y 1 → P y 0
    → (o : Op) (g : ℕ) → op_in o (x ∷ y ∷ []) ≡ true → leb g 1 ≡ true → P o g
unfolding op_in
op_cases P x y x1 x0 y1 y0 o g h l =
    either_op (λ (k : Op). P k g) x y o (is_op o x) (is_op o y) refl refl h
    (guard_cases (P x) x1 x0 g (leb-true g 1 l))
    (guard_cases (P y) y1 y0 g (leb-true g 1 l))

-- a row with the given op and guard, and the other columns of a row
unfoldable pub row_at : Op → ℕ → Row → Row
row_at o g row =
    record { op = o; guard = g; addr = row.addr; value = row.value; old = row.old; time = row.time; version = row.version }

-- a statement about a row, by the four cases
pub row_cases :
    (P : Row → Type 0) (x y : Op) (row : Row) → P (row_at x 1 row) → P (row_at x 0 row) → P (row_at y 1 row) → P (row_at y 0 row)
    → op_in row.op (x ∷ y ∷ []) ≡ true → leb row.guard 1 ≡ true → P row
unfolding row_at
row_cases P x y row x1 x0 y1 y0 = op_cases (λ o g. P (row_at o g row)) x y x1 x0 y1 y0 row.op row.guard
