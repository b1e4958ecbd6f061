-- The state that a checker reaches by rows that pass: its counters never fill, so a row takes it to the state of one row more, and its tests are those of
-- the rows that have passed.
-- Assumes nothing.
use Prim.Native.Nat.{ℕ, suc, ◌+◌, ◌*◌, ◌≤◌, ◌<◌}
use native.Mathlib.Omega.{arith}
use mathlib.Core.Path.{◌≡◌, refl, sym, ◌∙◌, ap, ap₂}
use mathlib.Core.Bool.{Bool, true, false, ◌&&◌, cond, and-eq-true_iff}
use mathlib.Core.List.{List, [], ◌∷◌, ◌++◌}
use lib.Dec.{eqb, leb, ltb}
use lib.ListN.{length}
use borrow.Author.Tests.{ltb-true, ltb-false, leb-true, eqb-true}
use Rattle.algebra.specs.Modulo.{times}
use Rattle.memory.specs.declared.Memory.{Memory}
use Rattle.memory.specs.declared.Memory.TheVariants.{Ram, Rom, Set, Stack, Queue}
use Rattle.memory.specs.declared.Row.{Row}
use Rattle.memory.specs.declared.Challenge.{Challenge}
use Rattle.memory.specs.declared.State.{State}
use Rattle.memory.specs.Rows.{limit, sized, allowed, raise_by, lower_by, raised, lowered, ends_due, ranges_due, ops_due, op_in, formed, depth_factor, depth_product, sunk, due_after, phase_after, row_fault}
use Rattle.memory.specs.Gates.{row_inputs, row_mults, inputs_of, mults_of}
use Rattle.memory.specs.Step.{top, raise, phase, pass, sinks, step_fault, multiply, passed_row}
use Rattle.memory.proofs.Counted.{length_snoc, raised_snoc, lowered_snoc, inputs_snoc, mults_snoc, depth_snoc, inputs_bound, mults_bound}
use Rattle.memory.proofs.Due.{Passes, due_form, raise_of_form, lower_of_form, quiet_after}
use Rattle.memory.proofs.Emitted.{context_of, emitted, emitted_snoc, products_of, multiply_emits}

-- the state after rows
unfoldable pub state_of : ℕ → Memory → ℕ → ℕ → Challenge → List Row → State
state_of q m n t ch rows =
    record { context = context_of q m n t rows; challenge = ch; products = products_of q ch (emitted q m n t [] rows) }

-- Sizes and counts that are allowed, and the bounds that rows which pass keep
pub record Bounded (n t : ℕ) (rows : List Row) : Type 0 where
  pub size : n ≤ limit
  pub count : t ≤ limit
  pub room : length rows ≤ 3 * (n + t)
  pub raised_rows : raised rows ≤ length rows
  pub raised_due : raised rows ≤ n + t
  pub lowered_rows : lowered rows ≤ length rows
  pub lowered_due : lowered rows ≤ n + t

-- an allowed size is within the limit
sized_bound : (m : Memory) (n : ℕ) → sized m n ≡ true → n ≤ limit
unfolding sized limit
sized_bound Ram n e = leb-true n limit e
sized_bound Rom n e = leb-true n limit e
sized_bound Set n e = leb-true n limit e
sized_bound Stack n e = omega (arith, eqb-true n 0 e)
sized_bound Queue n e = omega (arith, eqb-true n 0 e)

pub bounded_start : (m : Memory) (n t : ℕ) → allowed m n t ≡ true → Bounded n t []
unfolding allowed raised lowered
bounded_start m n t e = record {
  size = sized_bound m n ((and-eq-true_iff (sized m n) (leb t limit)).0 e).0;
  count = leb-true t limit ((and-eq-true_iff (sized m n) (leb t limit)).0 e).1;
  room = omega arith;
  raised_rows = omega arith;
  raised_due = omega arith;
  lowered_rows = omega arith;
  lowered_due = omega arith;
}

-- the end rows and the range rows due
ends_bound : (m : Memory) (n up down : ℕ) → ends_due m n up down ≤ n + up
unfolding ends_due
ends_bound Ram n up down = omega arith
ends_bound Rom n up down = omega arith
ends_bound Set n up down = omega arith
ends_bound Stack n up down = omega arith
ends_bound Queue n up down = omega arith

ranges_bound : (m : Memory) (t : ℕ) → ranges_due m t ≤ t
unfolding ranges_due
ranges_bound Ram t = omega arith
ranges_bound Rom t = omega arith
ranges_bound Set t = omega arith
ranges_bound Stack t = omega arith
ranges_bound Queue t = omega arith

-- a count that has reached k grows no more, if it grew by at most 1 for each row and by nothing after k rows
stays_within : (x r l k : ℕ) → r ≤ 1 → x ≤ l → x ≤ k → (k ≤ l → r ≡ 0) → x + r ≤ k
stays_within x r l k small rows within quiet = pick (ltb l k) refl
  where
    pick : (b : Bool) → ltb l k ≡ b → x + r ≤ k
    pick true e = omega (arith, ltb-true l k e)
    pick false e = omega (arith, quiet (ltb-false l k e))

pub bounded_next : (q : ℕ) (m : Memory) (n t : ℕ) (rows : List Row) (row : Row) → Passes q m n t rows row → Bounded n t rows
    → Bounded n t (rows ++ row ∷ [])
unfolding due_after
bounded_next q m n t rows row p b =
    let up = raise_by row.op row.guard in
    let down = lower_by row.op row.guard in
    let lt : length rows < n + t + ends_due m n (raised rows) (lowered rows) + ranges_due m t = ltb-true _ _ p.due in
    let one : length (rows ++ row ∷ []) ≡ suc (length rows) = length_snoc rows row in
    let rise : raised (rows ++ row ∷ []) ≡ raised rows + up = raised_snoc rows row in
    let fall : lowered (rows ++ row ∷ []) ≡ lowered rows + down = lowered_snoc rows row in
    record {
      size = b.size;
      count = b.count;
      room = omega (arith, lt, one, ends_bound m n (raised rows) (lowered rows), ranges_bound m t, b.raised_due);
      raised_rows = omega (arith, rise, one, b.raised_rows, raise_of_form m row (due_form p));
      raised_due = omega (arith, rise, stays_within (raised rows) up (length rows) (n + t) (raise_of_form m row (due_form p)) b.raised_rows b.raised_due (λ le. (quiet_after p le).raises row.guard));
      lowered_rows = omega (arith, fall, one, b.lowered_rows, lower_of_form m row (due_form p));
      lowered_due = omega (arith, fall, stays_within (lowered rows) down (length rows) (n + t) (lower_of_form m row (due_form p)) b.lowered_rows b.lowered_due (λ le. (quiet_after p le).lowers row.guard));
    }

-- a counter that has room rises
raise_exact : (x k : ℕ) → x + k ≤ top → raise x k ≡ x + k
unfolding raise top
raise_exact x k le = omega arith

-- the numbers of the lines after the rows
pub next_line : {n t : ℕ} {rows : List Row} → Bounded n t rows → raise (length rows) 4 ≡ length rows + 4
unfolding limit top
next_line {rows} b = raise_exact (length rows) 4 (omega (arith, b.room, b.size, b.count))

pub last_line : {n t : ℕ} {rows : List Row} → Bounded n t rows → raise (length rows) 3 ≡ length rows + 3
unfolding limit top
last_line {rows} b = raise_exact (length rows) 3 (omega (arith, b.room, b.size, b.count))

-- a row of its form passes to the context of one row more
pub pass_context : (q : ℕ) (m : Memory) (n t : ℕ) (rows : List Row) (row : Row) → formed m row ≡ true → Bounded n t rows
    → pass q (context_of q m n t rows) row ≡ context_of q m n t (rows ++ row ∷ [])
unfolding pass context_of limit top
pass_context q m n t rows row f b = λ i. record {
  memory = m;
  size = n;
  count = t;
  passed = rows_path i;
  pushed = pushed_path i;
  popped = popped_path i;
  depths = depths_path i;
  inputs = inputs_path i;
  mults = mults_path i;
  answer = 0;
  line = 0;
  ended = false;
}
  where
    rows_path : raise (length rows) 1 ≡ length (rows ++ row ∷ [])
    rows_path = raise_exact (length rows) 1 (omega (arith, b.room, b.size, b.count)) ∙ omega (arith, length_snoc rows row)

    pushed_path : raise (raised rows) (raise_by row.op row.guard) ≡ raised (rows ++ row ∷ [])
    pushed_path =
        raise_exact (raised rows) (raise_by row.op row.guard) (omega (arith, b.raised_due, raise_of_form m row f, b.size, b.count))
        ∙ sym (raised_snoc rows row)

    popped_path : raise (lowered rows) (lower_by row.op row.guard) ≡ lowered (rows ++ row ∷ [])
    popped_path =
        raise_exact (lowered rows) (lower_by row.op row.guard) (omega (arith, b.lowered_due, lower_of_form m row f, b.size, b.count))
        ∙ sym (lowered_snoc rows row)

    depths_path : times q (depth_product q 0 0 rows) (depth_factor q (raised rows) (lowered rows) row) ≡ depth_product q 0 0 (rows ++ row ∷ [])
    depths_path =
        ap₂ (λ (u d : ℕ). times q (depth_product q 0 0 rows) (depth_factor q u d row)) (omega arith) (omega arith)
        ∙ sym (depth_snoc q 0 0 rows row)

    inputs_path : raise (inputs_of m rows) (row_inputs m row.op) ≡ inputs_of m (rows ++ row ∷ [])
    inputs_path =
        raise_exact (inputs_of m rows) (row_inputs m row.op) (omega (arith, inputs_snoc m rows row, inputs_bound m (rows ++ row ∷ []), length_snoc rows row, b.room, b.size, b.count))
        ∙ sym (inputs_snoc m rows row)

    mults_path : raise (mults_of m rows) (row_mults m row.op) ≡ mults_of m (rows ++ row ∷ [])
    mults_path =
        raise_exact (mults_of m rows) (row_mults m row.op) (omega (arith, mults_snoc m rows row, mults_bound m (rows ++ row ∷ []), length_snoc rows row, b.room, b.size, b.count))
        ∙ sym (mults_snoc m rows row)

-- and its state to that of one row more
pub passed_state : (q : ℕ) (m : Memory) (n t : ℕ) (ch : Challenge) (rows : List Row) (row : Row) → formed m row ≡ true → Bounded n t rows
    → passed_row q (state_of q m n t ch rows) row ≡ state_of q m n t ch (rows ++ row ∷ [])
unfolding passed_row state_of
passed_state q m n t ch rows row f b = λ i. record {
  context = pass_context q m n t rows row f b i;
  challenge = ch;
  products = products_path i;
}
  where
    products_path :
        multiply q ch (context_of q m n t rows) row (products_of q ch (emitted q m n t [] rows))
        ≡ products_of q ch (emitted q m n t [] (rows ++ row ∷ []))
    products_path =
        multiply_emits q ch (context_of q m n t rows) row (emitted q m n t [] rows)
        ∙ ap (products_of q ch) (sym (emitted_snoc q m n t rows row))

-- the depth of a context is the rows' depth
sinks_context : (q : ℕ) (m : Memory) (n t : ℕ) (rows : List Row) → sinks (context_of q m n t rows) ≡ sunk q m rows
unfolding sinks sunk context_of
sinks_context q Ram n t rows = refl
sinks_context q Rom n t rows = refl
sinks_context q Set n t rows = refl
sinks_context q Stack n t rows = refl
sinks_context q Queue n t rows = refl

-- a state finds the fault of a row that the rows have
pub step_fault_lem : (q : ℕ) (m : Memory) (n t : ℕ) (rows : List Row) (row : Row) → Bounded n t rows
    → step_fault q (context_of q m n t rows) row ≡ row_fault q m n t rows row
unfolding step_fault row_fault context_of phase phase_after
step_fault_lem q m n t rows row b = pick (op_in row.op (ops_due m (phase_after m n t rows))) (formed m row) refl
  where
    pick : (a f : Bool) → formed m row ≡ f
        → ◌≡◌ {A = ℕ} (cond a (cond f (cond (leb 1 t && (eqb (length rows + 1) (n + t) && sinks (pass q (context_of q m n t rows) row))) 8 0) 6) 5)
        (cond a (cond f (cond (leb 1 t && (eqb (length rows + 1) (n + t) && sunk q m (rows ++ row ∷ []))) 8 0) 6) 5)
    pick false f e = refl
    pick true false e = refl
    pick true true e =
        ap (λ (s : Bool). cond (leb 1 t && (eqb (length rows + 1) (n + t) && s)) 8 0)
        (ap sinks (pass_context q m n t rows row e b) ∙ sinks_context q m n t (rows ++ row ∷ []))
