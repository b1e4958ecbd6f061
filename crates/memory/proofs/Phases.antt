-- Complete and well-formed rows by their phases: a list of rows meets no fault exactly when it is n
-- init rows, t operations, the end rows and the range rows, each row with an op of its phase and in
-- its form, and the operations do not sink. A list that meets 8 has such rows up to the last
-- operation, and they sink.
-- Assumes nothing.
use Prim.Native.Nat.{ℕ, zero, suc, ◌+◌, ◌≤◌, ◌<◌, ◌%◌}
use native.Mathlib.Nat.{eq-zero-or-pos, one-mul, mod-mod}
use native.Mathlib.Omega.{arith}
use mathlib.Core.Path.{◌≡◌, refl, sym, ◌∙◌, ap, ap₂, subst}
use mathlib.Core.Logic.{◌⊎◌, inl, inr, ◌≢◌}
use mathlib.Core.Bool.{Bool, true, false, ◌&&◌, cond, and-false, or-false}
use mathlib.Core.List.{List, [], ◌∷◌, ◌++◌, map, append-nil, append_assoc}
use lib.Dec.{eqb, leb, ltb}
use lib.ListN.{length, take, drop, length-append}
use lib.Seq.{take_at, drop_at}
use borrow.Author.Tests.{eqb-true, eqb-false, eq-eqb, ne_eqb, lt-ltb, le-ltb, le-leb, lt-leb}
use Rattle.algebra.specs.Modulo.{times}
use Rattle.memory.specs.declared.Memory.{Memory}
use Rattle.memory.specs.declared.Memory.TheVariants.{Ram, Rom, Set, Stack, Queue}
use Rattle.memory.specs.declared.Op.{Op}
use Rattle.memory.specs.declared.Op.TheVariants.{Init, End, Range}
use Rattle.memory.specs.declared.Phase.{Phase}
use Rattle.memory.specs.declared.Phase.TheVariants.{Starting, Operating, Ending, Ranging, Over}
use Rattle.memory.specs.declared.Row.{Row}
use Rattle.memory.specs.Faults.{Parsed}
use Rattle.std.specs.Prelude.{Ok, Err}
use Rattle.memory.specs.Names.{op_code, is_op}
use Rattle.memory.specs.Rows.{raise_by, lower_by, raised, lowered, ends_due, ranges_due, phase_at, ops_due, op_in, formed, row_below, depth_factor, depth_product, sunk, due_after, phase_after, row_fault, unread_fault, parsed_fault, line_fault}
use Rattle.memory.specs.Equations.{lists_of, end_rows, range_rows, file_lists}
use Rattle.memory.specs.File.{parsed_row, rows_of, Refusal, refusal, first_fault}
use Rattle.memory.proofs.Operations.{Ops, is_op_true}
use Rattle.memory.proofs.ReadRows.{both_pass, RowBelow, RowsBelow, formed_single, row_below_lem, below_row, split_below, chosen_first}

-- a row of a phase: its op is one of those due there, and the row has its form
abbrev pub DueRow : Memory → Phase → Row → Type 0
DueRow m p row = (op_in row.op (ops_due m p) ≡ true) × (formed m row ≡ true)

-- the same of each row of a list
abbrev pub DueRows : Memory → Phase → List Row → Type 0
DueRows m p [] = Unit {0}
DueRows m p (row ∷ rows) = DueRow m p row × DueRows m p rows

-- a test that does not give 8 fails
fails_test : (b : Bool) → ◌≡◌ {A = ℕ} (cond b 8 0) 0 → b ≡ false
fails_test true e = absurd (omega (arith, e))
fails_test false e = refl

-- the first of two faults is the result, or it is none and the rest is the result
first_or_rest :
    (k : ℕ) (b : Bool) (f l : ℕ) (rest : Refusal) → eqb f 0 ≡ b → (cond b rest (refusal f l)).number ≡ k
    → ((f ≡ 0) × (rest.number ≡ k)) ⊎ ((f ≢ 0) × (f ≡ k))
unfolding refusal
first_or_rest k true f l rest e h = inl (eqb-true f 0 e, h)
first_or_rest k false f l rest e h = inr (eqb-false f 0 e, h)

-- at the end of file there is no 8
end_not_eight : (b : Bool) (l : ℕ) → (cond b (refusal 7 l) (refusal 0 0)).number ≡ 8 → ⊥
unfolding refusal
end_not_eight true l h = omega arith
end_not_eight false l h = omega arith

-- a number that is none of 1 to 7
abbrev Late : ℕ → Type 0
Late k = (j : ℕ) → 1 ≤ j → j ≤ 7 → j ≢ k

-- 0 is such a number,
none_late : Late 0
none_late j low high = omega arith

-- and so is 8
eight_late : Late 8
eight_late j low high = omega arith

-- how often the depth rises and falls in two lists of rows
pub raised_append : (xs ys : List Row) → raised (xs ++ ys) ≡ raised xs + raised ys
unfolding raised
raised_append [] ys = omega arith
raised_append (x ∷ xs) ys = omega (arith, raised_append xs ys)

-- the same of how often it falls
pub lowered_append : (xs ys : List Row) → lowered (xs ++ ys) ≡ lowered xs + lowered ys
unfolding lowered
lowered_append [] ys = omega arith
lowered_append (x ∷ xs) ys = omega (arith, lowered_append xs ys)

-- an op that is the only one due
pub only_op : (o x : Op) → op_in o (x ∷ []) ≡ true → o ≡ x
unfolding op_in
only_op o x h = is_op_true o x (sym (or-false (is_op o x)) ∙ h)

-- the rows of a phase other than the operations do not change the depth
abbrev Quiet : Op → Type 0
Quiet o = (g : ℕ) → (raise_by o g ≡ 0) × (lower_by o g ≡ 0)

-- init, end and range rows
quiet_init : Quiet Init
unfolding raise_by lower_by is_op op_code
quiet_init g = (refl, refl)

quiet_end : Quiet End
unfolding raise_by lower_by is_op op_code
quiet_end g = (refl, refl)

quiet_range : Quiet Range
unfolding raise_by lower_by is_op op_code
quiet_range g = (refl, refl)

-- a phase in which one op is due, which does not change the depth
data Still (m : Memory) : Phase → Type 0 where
  still_starting : Still m Starting
  still_ending : Still m Ending
  still_ranging : Still m Ranging

-- a row of such a phase does not change the depth
quiet_row : (m : Memory) (p : Phase) → Still m p → (row : Row) → op_in row.op (ops_due m p) ≡ true
    → (raise_by row.op row.guard ≡ 0) × (lower_by row.op row.guard ≡ 0)
unfolding ops_due
quiet_row m p still_starting row h = subst Quiet (sym (only_op row.op Init h)) quiet_init row.guard
quiet_row m p still_ending row h = subst Quiet (sym (only_op row.op End h)) quiet_end row.guard
quiet_row m p still_ranging row h = subst Quiet (sym (only_op row.op Range h)) quiet_range row.guard

-- nor do its rows
quiet_rows : (m : Memory) (p : Phase) → Still m p → (rows : List Row) → DueRows m p rows → (raised rows ≡ 0) × (lowered rows ≡ 0)
unfolding raised lowered
quiet_rows m p s [] due = (refl, refl)
quiet_rows m p s (row ∷ rows) due =
    let here = quiet_row m p s row due.0.0 in
    let rest = quiet_rows m p s rows due.1 in
    (omega (arith, here.0, rest.0), omega (arith, here.1, rest.1))

-- The init rows do not change whether operations sink.
init_factor : (q up down : ℕ) (m : Memory) (row : Row) → op_in row.op (ops_due m Starting) ≡ true → depth_factor q up down row ≡ 1
unfolding depth_factor ops_due
init_factor q up down m row h = rw (only_op row.op Init h) (unfold is_op op_code in refl)

-- an init row multiplies the queue's product by 1
first_passed : (q : ℕ) (m : Memory) (row : Row) (rows : List Row) → op_in row.op (ops_due m Starting) ≡ true
    → depth_product q 0 0 (row ∷ rows) ≡ times q 1 (depth_product q 0 0 rows)
unfolding depth_product
first_passed q m row rows h =
    let quiet = quiet_row m Starting still_starting row h in rw (init_factor q 0 0 m row h, quiet.0, quiet.1)

-- a product of at least one factor is a remainder
product_kept : (q : ℕ) (x : Row) (xs : List Row) → times q 1 (depth_product q 0 0 (x ∷ xs)) ≡ depth_product q 0 0 (x ∷ xs)
unfolding depth_product times
product_kept q x xs = ap (λ (y : ℕ). y % q) (one-mul _) ∙ mod-mod _ q

-- so the init rows leave it as it is
inits_product : (q : ℕ) (m : Memory) (inits : List Row) (x : Row) (xs : List Row) → DueRows m Starting inits
    → depth_product q 0 0 (inits ++ x ∷ xs) ≡ depth_product q 0 0 (x ∷ xs)
inits_product q m [] x xs due = refl
inits_product q m (row ∷ inits) x xs due =
    first_passed q m row (inits ++ x ∷ xs) due.0.0 ∙ (ap (times q 1) (inits_product q m inits x xs due.1) ∙ product_kept q x xs)

-- and operations behind them sink exactly when they sink alone
sunk_inits : (q : ℕ) (m : Memory) (inits : List Row) (x : Row) (xs : List Row) → DueRows m Starting inits → sunk q m (inits ++ x ∷ xs) ≡ sunk q m (x ∷ xs)
unfolding sunk
sunk_inits q Ram inits x xs due = refl
sunk_inits q Rom inits x xs due = refl
sunk_inits q Set inits x xs due = refl
sunk_inits q Stack inits x xs due =
    let quiet = quiet_rows Stack Starting still_starting inits due in
    let up : raised (inits ++ x ∷ xs) ≡ raised (x ∷ xs) = omega (arith, raised_append inits (x ∷ xs), quiet.0) in
    let down : lowered (inits ++ x ∷ xs) ≡ lowered (x ∷ xs) = omega (arith, lowered_append inits (x ∷ xs), quiet.1) in
    ap₂ ltb up down
sunk_inits q Queue inits x xs due = ap (λ (k : ℕ). eqb k 0) (inits_product q Queue inits x xs due)

-- The parts of complete and well-formed rows.
pub record Parts (q : ℕ) (m : Memory) (n t : ℕ) (rows : List Row) : Type 0 where
  pub inits : List Row
  pub ops : List Row
  pub ends : List Row
  pub ranges : List Row
  pub whole : rows ≡ inits ++ (ops ++ (ends ++ ranges))
  pub size : length inits ≡ n
  pub count : length ops ≡ t
  pub depth : length ends ≡ ends_due m n (raised ops) (lowered ops)
  pub ages : length ranges ≡ ranges_due m t
  pub starting : DueRows m Starting inits
  pub operating : DueRows m Operating ops
  pub ending : DueRows m Ending ends
  pub ranging : DueRows m Ranging ranges
  pub afloat : sunk q m ops ≡ false

-- only the operations change the depth
pub parts_raised : (q : ℕ) (m : Memory) (n t : ℕ) (rows : List Row) (p : Parts q m n t rows) → (raised rows ≡ raised p.ops) × (lowered rows ≡ lowered p.ops)
parts_raised q m n t rows p =
    let a = quiet_rows m Starting still_starting p.inits p.starting in
    let c = quiet_rows m Ending still_ending p.ends p.ending in
    let d = quiet_rows m Ranging still_ranging p.ranges p.ranging in (
      omega (
        arith,
        ap raised p.whole,
        raised_append p.inits (p.ops ++ (p.ends ++ p.ranges)),
        raised_append p.ops (p.ends ++ p.ranges),
        raised_append p.ends p.ranges,
        a.0,
        c.0,
        d.0,
      ),
      omega (
        arith,
        ap lowered p.whole,
        lowered_append p.inits (p.ops ++ (p.ends ++ p.ranges)),
        lowered_append p.ops (p.ends ++ p.ranges),
        lowered_append p.ends p.ranges,
        a.1,
        c.1,
        d.1,
      ),
    )

-- the parts are those by which the equations name them
pub parts_inits : (q : ℕ) (m : Memory) (n t : ℕ) (rows : List Row) (p : Parts q m n t rows) → take n rows ≡ p.inits
parts_inits q m n t rows p = ap (take n) p.whole ∙ take_at p.inits (p.ops ++ (p.ends ++ p.ranges)) n p.size

-- what follows the init rows
parts_after_inits : (q : ℕ) (m : Memory) (n t : ℕ) (rows : List Row) (p : Parts q m n t rows) → drop n rows ≡ p.ops ++ (p.ends ++ p.ranges)
parts_after_inits q m n t rows p = ap (drop n) p.whole ∙ drop_at p.inits (p.ops ++ (p.ends ++ p.ranges)) n p.size

-- the operations
pub parts_ops : (q : ℕ) (m : Memory) (n t : ℕ) (rows : List Row) (p : Parts q m n t rows) → take t (drop n rows) ≡ p.ops
parts_ops q m n t rows p = ap (take t) (parts_after_inits q m n t rows p) ∙ take_at p.ops (p.ends ++ p.ranges) t p.count

-- what follows the operations
parts_after_ops : (q : ℕ) (m : Memory) (n t : ℕ) (rows : List Row) (p : Parts q m n t rows) → drop (n + t) rows ≡ p.ends ++ p.ranges
parts_after_ops q m n t rows p =
    ap (drop (n + t)) (p.whole ∙ sym (append_assoc p.inits p.ops (p.ends ++ p.ranges)))
    ∙ drop_at (p.inits ++ p.ops) (p.ends ++ p.ranges) (n + t) (omega (arith, length-append p.inits p.ops, p.size, p.count))

-- as many end rows as the whole list makes due
pub parts_depth : (q : ℕ) (m : Memory) (n t : ℕ) (rows : List Row) (p : Parts q m n t rows) → length p.ends ≡ ends_due m n (raised rows) (lowered rows)
parts_depth q m n t rows p = let same = parts_raised q m n t rows p in p.depth ∙ ap₂ (ends_due m n) (sym same.0) (sym same.1)

-- the end rows
pub parts_ends : (q : ℕ) (m : Memory) (n t : ℕ) (rows : List Row) (p : Parts q m n t rows) → end_rows m n t rows ≡ p.ends
unfolding end_rows
parts_ends q m n t rows p =
    ap (take (ends_due m n (raised rows) (lowered rows))) (parts_after_ops q m n t rows p)
    ∙ take_at p.ends p.ranges (ends_due m n (raised rows) (lowered rows)) (parts_depth q m n t rows p)

-- the range rows
pub parts_ranges : (q : ℕ) (m : Memory) (n t : ℕ) (rows : List Row) (p : Parts q m n t rows) → range_rows m n t rows ≡ p.ranges
unfolding range_rows
parts_ranges q m n t rows p =
    ap (drop (n + t + ends_due m n (raised rows) (lowered rows))) (p.whole ∙ (sym (append_assoc p.inits p.ops (p.ends ++ p.ranges)) ∙ sym (append_assoc (p.inits ++ p.ops) p.ends p.ranges)))
    ∙ drop_at (p.inits ++ p.ops ++ p.ends) p.ranges (n + t + ends_due m n (raised rows) (lowered rows))
    (omega (arith, length-append (p.inits ++ p.ops) p.ends, length-append p.inits p.ops, p.size, p.count, parts_depth q m n t rows p))

-- the lists of the equations, by the parts
pub parts_lists : (q : ℕ) (m : Memory) (n t : ℕ) (rows : List Row) (p : Parts q m n t rows)
    → file_lists q m n t rows ≡ lists_of q m t p.inits p.ops p.ends p.ranges
unfolding file_lists
parts_lists q m n t rows p =
    rw (parts_inits q m n t rows p, parts_ops q m n t rows p, parts_ends q m n t rows p, parts_ranges q m n t rows p)

-- no operation sinks nothing
sunk_none : (q : ℕ) (m : Memory) → sunk q m [] ≡ false
unfolding sunk raised lowered depth_product
sunk_none q Ram = refl
sunk_none q Rom = refl
sunk_none q Set = refl
sunk_none q Stack = refl
sunk_none q Queue = refl

-- the operations do not sink behind the init rows
pub parts_floats : (q : ℕ) (m : Memory) (n t : ℕ) (rows : List Row) → Parts q m n t rows → 1 ≤ t → sunk q m (take (n + t) rows) ≡ false
parts_floats q m n t rows p some = ap (sunk q m) first ∙ go p.ops p.count p.afloat
  where
    first : take (n + t) rows ≡ p.inits ++ p.ops
    first =
        ap (take (n + t)) (p.whole ∙ sym (append_assoc p.inits p.ops (p.ends ++ p.ranges)))
        ∙ take_at (p.inits ++ p.ops) (p.ends ++ p.ranges) (n + t) (omega (arith, length-append p.inits p.ops, p.size, p.count))

    go : (ops : List Row) → length ops ≡ t → sunk q m ops ≡ false → sunk q m (p.inits ++ ops) ≡ false
    go [] count afloat = absurd (omega arith)
    go (x ∷ xs) count afloat = sunk_inits q m p.inits x xs p.starting ∙ afloat

-- operations have ops that are due, and guards of 0 or 1
pub formed_guard : (m : Memory) (row : Row) → formed m row ≡ true → leb row.guard 1 ≡ true
unfolding formed
formed_guard m row h = (both_pass (leb row.guard 1) _ (both_pass (leb row.guard 1 && _) _ h).0).0

-- the same of every operation
pub due_ops : (m : Memory) (rows : List Row) → DueRows m Operating rows → Ops m rows
due_ops m [] due = tt
due_ops m (row ∷ rows) due = (due.0.0, formed_guard m row due.0.1, due_ops m rows due.1)

module _ (q : ℕ) (m : Memory) (n t : ℕ) where
  -- the first fault is that of the first line, or this has none and it is that of the lines after
  first_step : (k : ℕ) (rows : List Row) (x : Parsed) (xs : List Parsed) → (first_fault q m n t rows (x ∷ xs)).number ≡ k
      → ((line_fault q m n t rows x ≡ 0) × ((first_fault q m n t (rows ++ parsed_row x ∷ []) xs).number ≡ k))
      ⊎ ((line_fault q m n t rows x ≢ 0) × (line_fault q m n t rows x ≡ k))
  unfolding first_fault
  first_step k rows x xs h =
      first_or_rest k (eqb (line_fault q m n t rows x) 0) (line_fault q m n t rows x) (length rows + 4) (first_fault q m n t (rows ++ parsed_row x ∷ []) xs) refl h

  -- where no fault is met, the first line has none, nor have the lines after it
  pub no_fault_step : (rows : List Row) (x : Parsed) (xs : List Parsed) → (first_fault q m n t rows (x ∷ xs)).number ≡ 0
      → (line_fault q m n t rows x ≡ 0) × ((first_fault q m n t (rows ++ parsed_row x ∷ []) xs).number ≡ 0)
  no_fault_step rows x xs h = elim (first_step 0 rows x xs h) [
    | inl passed ↦ passed
    | inr met ↦ absurd (met.0 met.1)
  ]

  -- the rows that have passed do not meet 8
  abbrev pub Calm : List Row → Type 0
  Calm rows = (leb 1 t && (eqb (length rows) (n + t) && sunk q m rows)) ≡ false

  -- how many end rows are due by the rows that have passed
  abbrev pub ends_after : List Row → ℕ
  ends_after rows = ends_due m n (raised rows) (lowered rows)

  -- what holds of the rows before a row of a phase, and how many rows end the phase, where d end rows are due
  abbrev At : ℕ → Phase → List Row → Type 0
  At d Starting rows = Unit {0}
  At d Operating rows = n ≤ length rows
  At d Ending rows = (n + t ≤ length rows) × (ends_after rows ≡ d)
  At d Ranging rows = (n + t + d ≤ length rows) × (ends_after rows ≡ d)
  At d Over rows = ⊥

  -- how many rows have passed when the phase is over
  abbrev till : ℕ → Phase → ℕ
  till d Starting = n
  till d Operating = n + t
  till d Ending = n + t + d
  till d Ranging = n + t + d + ranges_due m t
  till d Over = 0

  -- the phase of the next row
  at_phase : (d : ℕ) (p : Phase) (rows : List Row) → At d p rows → length rows < till d p → phase_after m n t rows ≡ p
  unfolding phase_after phase_at
  at_phase d Starting rows a h = rw (lt-ltb (length rows) n h)
  at_phase d Operating rows a h = rw (le-ltb (length rows) n a, lt-ltb (length rows) (n + t) h)
  at_phase d Ending rows a h =
      rw (a.1, le-ltb (length rows) n (omega (arith, a.0)), le-ltb (length rows) (n + t) a.0, lt-ltb (length rows) (n + t + d) h)
  at_phase d Ranging rows a h =
      rw (
        a.1,
        le-ltb (length rows) n (omega (arith, a.0)),
        le-ltb (length rows) (n + t) (omega (arith, a.0)),
        le-ltb (length rows) (n + t + d) a.0,
        lt-ltb (length rows) (n + t + d + ranges_due m t) h,
      )
  at_phase d Over rows a h = absurd a

  -- and that it is due
  at_due : (d : ℕ) (p : Phase) (rows : List Row) → At d p rows → length rows < till d p → length rows < due_after m n t rows
  unfolding due_after
  at_due d Starting rows a h = omega (arith, h)
  at_due d Operating rows a h = omega (arith, h)
  at_due d Ending rows a h = omega (arith, h, a.1)
  at_due d Ranging rows a h = omega (arith, h, a.1)
  at_due d Over rows a h = absurd a

  -- a row of a phase keeps it
  ends_kept : (p : Phase) → Still m p → (rows : List Row) (row : Row) → op_in row.op (ops_due m p) ≡ true → ends_after (rows ++ row ∷ []) ≡ ends_after rows
  unfolding raised lowered
  ends_kept p s rows row h =
      let quiet = quiet_row m p s row h in
      ap₂ (ends_due m n) (raised_append rows (row ∷ []) ∙ omega (arith, quiet.0)) (lowered_append rows (row ∷ []) ∙ omega (arith, quiet.1))

  -- the same after a row of the phase
  at_step : (d : ℕ) (p : Phase) (rows : List Row) (row : Row) → op_in row.op (ops_due m p) ≡ true → At d p rows → At d p (rows ++ row ∷ [])
  at_step d Starting rows row h a = tt
  at_step d Operating rows row h a = omega (arith, length-append rows (row ∷ []), a)
  at_step d Ending rows row h a = (omega (arith, length-append rows (row ∷ []), a.0), ends_kept Ending still_ending rows row h ∙ a.1)
  at_step d Ranging rows row h a = (omega (arith, length-append rows (row ∷ []), a.0), ends_kept Ranging still_ranging rows row h ∙ a.1)
  at_step d Over rows row h a = a

  -- the test for 8 by the number of rows that have passed with the row
  calm_length : (rows : List Row) (row : Row) → (leb 1 t && (eqb (length rows + 1) (n + t) && sunk q m (rows ++ row ∷ []))) ≡ (leb 1 t && (eqb (length (rows ++ row ∷ [])) (n + t) && sunk q m (rows ++ row ∷ [])))
  calm_length rows row =
      ap (λ (k : ℕ). leb 1 t && (eqb k (n + t) && sunk q m (rows ++ row ∷ []))) (sym (length-append rows (row ∷ [])))

  -- a row that meets none of 1 to 7: its numbers are below q, it is one of its phase, and the test
  -- for 8 gives its fault
  row_kept : (k : ℕ) → Late k → (rows : List Row) (row : Row) → line_fault q m n t rows (Ok row) ≡ k
      → RowBelow q row × DueRow m (phase_after m n t rows) row
      × (cond (leb 1 t && (eqb (length rows + 1) (n + t) && sunk q m (rows ++ row ∷ []))) 8 0 ≡ k)
  unfolding line_fault parsed_fault row_fault
  row_kept k late rows row e =
      let read = (chosen_first k (ltb (length rows) (due_after m n t rows)) _ 7 (late 7 (omega arith) (omega arith)) e).1 in
      let small = chosen_first k (row_below q row) _ 3 (late 3 (omega arith) (omega arith)) read in
      let op = chosen_first k (op_in row.op (ops_due m (phase_after m n t rows))) _ 5 (late 5 (omega arith) (omega arith)) small.1 in
      let form = chosen_first k (formed m row) _ 6 (late 6 (omega arith) (omega arith)) op.1 in
      (row_below_lem q row (formed_single m row form.0) small.0, (op.0, form.0), form.1)

  -- what reads as no row meets one of them
  unread_met : (k : ℕ) → Late k → (rows : List Row) (f : ℕ) → line_fault q m n t rows (Err f) ≡ k → ⊥
  unfolding line_fault parsed_fault
  unread_met k late rows f e =
      let read = (chosen_first k (ltb (length rows) (due_after m n t rows)) (unread_fault f) 7 (late 7 (omega arith) (omega arith)) e).1 in
      late 3 (omega arith) (omega arith) (chosen_first k (eqb f 3) 3 2 (late 2 (omega arith) (omega arith)) read).1

  -- a line of a phase has no fault exactly when its row is one of the phase, its numbers are below q, and 8 is not met
  row_passes : (d : ℕ) (p : Phase) (rows : List Row) (row : Row) → At d p rows → length rows < till d p → line_fault q m n t rows (Ok row) ≡ 0
      → DueRow m p row × Calm (rows ++ row ∷ [])
  row_passes d p rows row a h e =
      let kept = row_kept 0 none_late rows row e in
      (subst (λ (ph : Phase). DueRow m ph row) (at_phase d p rows a h) kept.1, sym (calm_length rows row) ∙ fails_test _ kept.2)

  -- and the other way round
  passing_row : (d : ℕ) (p : Phase) (rows : List Row) (row : Row) → At d p rows → length rows < till d p → RowBelow q row → DueRow m p row
      → Calm (rows ++ row ∷ []) → line_fault q m n t rows (Ok row) ≡ 0
  unfolding line_fault parsed_fault row_fault
  passing_row d p rows row a h below due calm =
      rw (lt-ltb (length rows) (due_after m n t rows) (at_due d p rows a h), below_row q row below, at_phase d p rows a h, due.0, due.1, calm_length rows row, calm)

  -- The rows of one phase, from the rows before them: those that pass, and what follows.
  record Passing (d : ℕ) (p : Phase) (rows : List Row) (j : ℕ) (ys : List Row) : Type 0 where
    part : List Row
    rest : List Row
    split : ys ≡ part ++ rest
    count : length part ≡ j
    due : DueRows m p part
    stays : At d p (rows ++ part)
    calm : Calm (rows ++ part)
    further : (first_fault q m n t (rows ++ part) (map Ok rest)).number ≡ 0

  -- one row more
  passing_more : (d : ℕ) (p : Phase) (rows : List Row) (y : Row) (j : ℕ) (ys : List Row) → DueRow m p y → Passing d p (rows ++ y ∷ []) j ys
      → Passing d p rows (suc j) (y ∷ ys)
  passing_more d p rows y j ys due r =
      let same = append_assoc rows (y ∷ []) r.part in
      record {
        part = y ∷ r.part;
        rest = r.rest;
        split = ap {B = List Row} (λ l. y ∷ l) r.split;
        count = ap suc r.count;
        due = (due, r.due);
        stays = subst (At d p) same r.stays;
        calm = subst Calm same r.calm;
        further = subst (λ (z : List Row). (first_fault q m n t z (map Ok r.rest)).number ≡ 0) same r.further;
      }

  -- where no fault is met, j rows pass if the phase lasts for j rows
  passing : (d : ℕ) (p : Phase) (j : ℕ) (rows ys : List Row) → At d p rows → length rows + j ≤ till d p → Calm rows
      → (first_fault q m n t rows (map Ok ys)).number ≡ 0 → Passing d p rows j ys
  unfolding first_fault refusal parsed_row
  passing d p zero rows ys a h calm e =
      let same = sym (append-nil rows) in
      record {
        part = [];
        rest = ys;
        split = refl;
        count = refl;
        due = tt;
        stays = subst (At d p) same a;
        calm = subst Calm same calm;
        further = subst (λ (r : List Row). (first_fault q m n t r (map Ok ys)).number ≡ 0) same e;
      }
  passing d p (suc j) rows [] a h calm e =
      absurd (7≢0 (rw (lt-ltb (length rows) (due_after m n t rows) (at_due d p rows a (omega arith))) at e))
    where
      7≢0 : ◌≡◌ {A = ℕ} 7 0 → ⊥
      7≢0 = omega arith
  passing d p (suc j) rows (y ∷ ys) a h calm e =
      let step = no_fault_step rows (Ok y) (map Ok ys) e in
      let here = row_passes d p rows y a (omega arith) step.0 in
      passing_more d p rows y j ys here.0
      (passing d p j (rows ++ y ∷ []) ys (at_step d p rows y here.0.0 a) (omega (arith, length-append rows (y ∷ []))) here.1 step.1)

  -- 8 is looked for only after n + t rows, if t is not 0
  calm_other : (rows : List Row) → (length rows ≡ n + t → ⊥) → Calm rows
  calm_other rows h = rw (ne_eqb (length rows) (n + t) h) (and-false (leb 1 t))

  -- not if t is 0
  calm_none : (rows : List Row) → t ≡ 0 → Calm rows
  calm_none rows e = rw (lt-leb 1 t (omega (arith, e)))

  -- not after the init rows
  calm_early : (rows : List Row) → length rows ≤ n → Calm rows
  calm_early rows h = go (eq-zero-or-pos t)
    where
      go : (t ≡ 0) ⊎ (0 < t) → Calm rows
      go (inl e) = calm_none rows e
      go (inr l) = calm_other rows (omega arith)

  -- and not again after the operations
  calm_late : (rows part : List Row) → n + t ≤ length rows → Calm rows → Calm (rows ++ part)
  calm_late rows [] h calm = subst Calm (sym (append-nil rows)) calm
  calm_late rows (x ∷ part) h calm = calm_other (rows ++ x ∷ part) (omega (arith, length-append rows (x ∷ part)))

  -- before the last row of a phase 8 is not looked for
  calm_inside : (d : ℕ) (p : Phase) (rows : List Row) (row : Row) → At d p rows → length rows + 1 < till d p → Calm (rows ++ row ∷ [])
  calm_inside d Starting rows row a h = calm_other (rows ++ row ∷ []) (omega (arith, length-append rows (row ∷ [])))
  calm_inside d Operating rows row a h = calm_other (rows ++ row ∷ []) (omega (arith, length-append rows (row ∷ [])))
  calm_inside d Ending rows row a h = calm_other (rows ++ row ∷ []) (omega (arith, length-append rows (row ∷ []), a.0))
  calm_inside d Ranging rows row a h = calm_other (rows ++ row ∷ []) (omega (arith, length-append rows (row ∷ []), a.0))
  calm_inside d Over rows row a h = absurd a

  -- so the first of the last rows of a phase does not meet it
  calm_first : (d : ℕ) (p : Phase) (rows : List Row) (row : Row) (part : List Row) → At d p rows → length rows + suc (length part) ≤ till d p
      → Calm (rows ++ row ∷ part) → Calm (rows ++ row ∷ [])
  calm_first d p rows row [] a h calm = calm
  calm_first d p rows row (x ∷ part) a h calm = calm_inside d p rows row a (omega arith)

  -- the rows of a phase pass
  passed_over : (d : ℕ) (p : Phase) (rows part rest : List Row) → At d p rows → length rows + length part ≤ till d p → RowsBelow q part → DueRows m p part
      → Calm (rows ++ part) → first_fault q m n t rows (map Ok (part ++ rest)) ≡ first_fault q m n t (rows ++ part) (map Ok rest)
  unfolding first_fault parsed_row
  passed_over d p rows [] rest a h below due calm = ap (λ (r : List Row). first_fault q m n t r (map Ok rest)) (sym (append-nil rows))
  passed_over d p rows (row ∷ part) rest a h below due calm =
      rw (passing_row d p rows row a (omega arith) below.0 due.0 (calm_first d p rows row part a h calm))
      (passed_over d p (rows ++ row ∷ []) part rest (at_step d p rows row due.0.0 a) (omega (arith, length-append rows (row ∷ []))) below.1 due.1
      (subst Calm (sym (append_assoc rows (row ∷ []) part)) calm)
      ∙ ap (λ (r : List Row). first_fault q m n t r (map Ok rest)) (append_assoc rows (row ∷ []) part))

  -- what holds before the rows of a phase holds after them
  at_through : (d : ℕ) (p : Phase) (rows part : List Row) → DueRows m p part → At d p rows → At d p (rows ++ part)
  at_through d p rows [] due a = subst (At d p) (sym (append-nil rows)) a
  at_through d p rows (row ∷ part) due a =
      subst (At d p) (append_assoc rows (row ∷ []) part) (at_through d p (rows ++ row ∷ []) part due.1 (at_step d p rows row due.0.0 a))

  -- 8 is not met after the operations exactly when they do not sink
  calm_afloat : (inits ops : List Row) → length inits ≡ n → length ops ≡ t → DueRows m Starting inits → Calm (inits ++ ops) → sunk q m ops ≡ false
  calm_afloat inits [] size count due calm = sunk_none q m
  calm_afloat inits (x ∷ xs) size count due calm =
      sym (sunk_inits q m inits x xs due)
      ∙ (rw (le-leb 1 t (omega arith), eq-eqb (length (inits ++ x ∷ xs)) (n + t) (omega (arith, length-append inits (x ∷ xs)))) at calm)

  -- the other way round
  afloat_calm : (inits ops : List Row) → length ops ≡ t → DueRows m Starting inits → sunk q m ops ≡ false → Calm (inits ++ ops)
  afloat_calm inits [] count due afloat = calm_none (inits ++ []) (sym count)
  afloat_calm inits (x ∷ xs) count due afloat =
      rw (sunk_inits q m inits x xs due, afloat, and-false (eqb (length (inits ++ x ∷ xs)) (n + t)), and-false (leb 1 t))

  -- how many end rows are due is decided by the operations
  ends_by_ops : (inits ops : List Row) → DueRows m Starting inits → ends_after (inits ++ ops) ≡ ends_due m n (raised ops) (lowered ops)
  ends_by_ops inits ops due =
      let quiet = quiet_rows m Starting still_starting inits due in
      let up : raised (inits ++ ops) ≡ raised ops = omega (arith, raised_append inits ops, quiet.0) in
      let down : lowered (inits ++ ops) ≡ lowered ops = omega (arith, lowered_append inits ops, quiet.1) in
      ap₂ (ends_due m n) up down

  -- no row follows the last due one
  none_follows : (rows ys : List Row) → due_after m n t rows ≤ length rows → (first_fault q m n t rows (map Ok ys)).number ≡ 0 → ys ≡ []
  none_follows rows [] h e = refl
  none_follows rows (y ∷ ys) h e =
      absurd (7≢0 (unfold line_fault in rw (le-ltb (length rows) (due_after m n t rows) h) at (no_fault_step rows (Ok y) (map Ok ys) e).0))
    where
      7≢0 : ◌≡◌ {A = ℕ} 7 0 → ⊥
      7≢0 = omega arith

  -- after the end rows there are the range rows, and no others
  only_ranges : (d : ℕ) (rows ys : List Row) → length rows ≡ n + t + d → ends_after rows ≡ d → Calm rows → (first_fault q m n t rows (map Ok ys)).number ≡ 0
      → (length ys ≡ ranges_due m t) × DueRows m Ranging ys
  only_ranges d rows ys long ends calm e =
      go (passing d Ranging (ranges_due m t) rows ys (omega (arith, long), ends) (omega (arith, long)) calm e)
    where
      go : Passing d Ranging rows (ranges_due m t) ys → (length ys ≡ ranges_due m t) × DueRows m Ranging ys
      go r = (ap length all ∙ r.count, subst (DueRows m Ranging) (sym all) r.due)
        where
          enough : due_after m n t (rows ++ r.part) ≤ length (rows ++ r.part)
          enough = unfold due_after in omega (arith, length-append rows r.part, long, r.count, r.stays.1)

          all : ys ≡ r.part
          all = r.split ∙ (ap (λ (l : List Row). r.part ++ l) (none_follows (rows ++ r.part) r.rest enough r.further) ∙ append-nil r.part)

  -- after the operations there are the end rows and the range rows
  record Closing (rows ys : List Row) : Type 0 where
    ends : List Row
    ranges : List Row
    split : ys ≡ ends ++ ranges
    depth : length ends ≡ ends_after rows
    ages : length ranges ≡ ranges_due m t
    ending : DueRows m Ending ends
    ranging : DueRows m Ranging ranges

  -- where no fault is met, they are as many as are due
  closing : (rows ys : List Row) → length rows ≡ n + t → Calm rows → (first_fault q m n t rows (map Ok ys)).number ≡ 0 → Closing rows ys
  closing rows ys long calm e = go (passing (ends_after rows) Ending (ends_after rows) rows ys (omega (arith, long), refl) (omega (arith, long)) calm e)
    where
      go : Passing (ends_after rows) Ending rows (ends_after rows) ys → Closing rows ys
      go r =
          let last = only_ranges (ends_after rows) (rows ++ r.part) r.rest (omega (arith, length-append rows r.part, long, r.count)) r.stays.1 r.calm r.further in
          record { ends = r.part; ranges = r.rest; split = r.split; depth = r.count; ages = last.0; ending = r.due; ranging = last.1 }

  -- rows that meet no fault are the rows of the four phases
  pub no_fault_parts : (rows : List Row) → (first_fault q m n t [] (map Ok rows)).number ≡ 0 → Parts q m n t rows
  no_fault_parts rows e = from (passing 0 Starting n [] rows tt (omega arith) (calm_early [] (omega arith)) e)
    where
      joined : (f : Passing 0 Starting [] n rows) (s : Passing 0 Operating f.part t f.rest) → Closing (f.part ++ s.part) s.rest → Parts q m n t rows
      joined f s c = record {
        inits = f.part;
        ops = s.part;
        ends = c.ends;
        ranges = c.ranges;
        whole = f.split ∙ ap (λ (l : List Row). f.part ++ l) (s.split ∙ ap (λ (l : List Row). s.part ++ l) c.split);
        size = f.count;
        count = s.count;
        depth = c.depth ∙ ends_by_ops f.part s.part f.due;
        ages = c.ages;
        starting = f.due;
        operating = s.due;
        ending = c.ending;
        ranging = c.ranging;
        afloat = calm_afloat f.part s.part f.count s.count f.due s.calm;
      }

      then : (f : Passing 0 Starting [] n rows) → Passing 0 Operating f.part t f.rest → Parts q m n t rows
      then f s =
          joined f s (closing (f.part ++ s.part) s.rest (omega (arith, length-append f.part s.part, f.count, s.count)) s.calm s.further)

      from : Passing 0 Starting [] n rows → Parts q m n t rows
      from f = then f (passing 0 Operating t f.part f.rest (omega (arith, f.count)) (omega (arith, f.count)) f.calm f.further)

  -- the range rows are the last ones due
  ranges_no_fault : (d : ℕ) (rows ranges : List Row) → length rows ≡ n + t + d → ends_after rows ≡ d → Calm rows → length ranges ≡ ranges_due m t
      → RowsBelow q ranges → DueRows m Ranging ranges → first_fault q m n t rows (map Ok ranges) ≡ refusal 0 0
  ranges_no_fault d rows ranges long ends calm ages below due =
      ap (λ (l : List Row). first_fault q m n t rows (map Ok l)) (sym (append-nil ranges))
      ∙ (passed_over d Ranging rows ranges [] a (omega (arith, long, ages)) below due (calm_late rows ranges (omega (arith, long)) calm)
      ∙ nothing_missing (at_through d Ranging rows ranges due a).1)
    where
      a : At d Ranging rows
      a = (omega (arith, long), ends)

      nothing_missing : ends_after (rows ++ ranges) ≡ d → first_fault q m n t (rows ++ ranges) [] ≡ refusal 0 0
      nothing_missing same =
          unfold first_fault due_after in
          rw (le-ltb (length (rows ++ ranges)) (n + t + ends_after (rows ++ ranges) + ranges_due m t) (omega (arith, length-append rows ranges, long, ages, same)))

  -- after the operations, the end rows and the range rows are due
  closing_no_fault : (rows ends ranges : List Row) → length rows ≡ n + t → Calm rows → length ends ≡ ends_after rows → length ranges ≡ ranges_due m t
      → RowsBelow q (ends ++ ranges) → DueRows m Ending ends → DueRows m Ranging ranges → first_fault q m n t rows (map Ok (ends ++ ranges)) ≡ refusal 0 0
  closing_no_fault rows ends ranges long calm depth ages both ending ranging =
      let below = split_below q ends ranges both in
      let kept = calm_late rows ends (omega (arith, long)) calm in
      let a : At (ends_after rows) Ending rows = (omega (arith, long), refl) in
      passed_over (ends_after rows) Ending rows ends ranges a (omega (arith, long, depth)) below.0 ending kept
      ∙ ranges_no_fault (ends_after rows) (rows ++ ends) ranges (omega (arith, length-append rows ends, long, depth)) (at_through (ends_after rows) Ending rows ends ending a).1 kept ages below.1 ranging

  -- the rows of the four phases meet no fault, where their numbers are below q
  pub parts_no_fault : (rows : List Row) → RowsBelow q rows → Parts q m n t rows → first_fault q m n t [] (map Ok rows) ≡ refusal 0 0
  parts_no_fault rows all p =
      let starts = split_below q p.inits (p.ops ++ (p.ends ++ p.ranges)) (subst (RowsBelow q) p.whole all) in
      let operates = split_below q p.ops (p.ends ++ p.ranges) starts.1 in
      let calm = afloat_calm p.inits p.ops p.count p.starting p.afloat in
      ap (λ (l : List Row). first_fault q m n t [] (map Ok l)) p.whole
      ∙ (passed_over 0 Starting [] p.inits (p.ops ++ (p.ends ++ p.ranges)) tt (omega (arith, p.size)) starts.0 p.starting (calm_early p.inits (omega (arith, p.size)))
      ∙ (passed_over 0 Operating p.inits p.ops (p.ends ++ p.ranges) (omega (arith, p.size)) (omega (arith, p.size, p.count)) operates.0 p.operating calm
      ∙ closing_no_fault (p.inits ++ p.ops) p.ends p.ranges (omega (arith, length-append p.inits p.ops, p.size, p.count)) calm (p.depth ∙ sym (ends_by_ops p.inits p.ops p.starting)) p.ages operates.1 p.ending p.ranging))

  -- The rows up to the one that meets 8, from the rows before them: all of them but that one pass.
  -- What follows it may be anything.
  pub record Sinking (rows ys : List Row) : Type 0 where
    pub part : List Row
    pub rest : List Row
    pub split : ys ≡ part ++ rest
    pub last : length (rows ++ part) ≡ n + t
    pub operating : n ≤ length rows → DueRows m Operating part
    pub sinks : sunk q m (rows ++ part) ≡ true

  -- a row that meets 8
  sinking_here : (rows : List Row) (row : Row) (ys : List Row) → line_fault q m n t rows (Ok row) ≡ 8 → Sinking rows (row ∷ ys)
  sinking_here rows row ys e =
      let kept = row_kept 8 eight_late rows row e in
      let test = (chosen_first 8 (leb 1 t && (eqb (length rows + 1) (n + t) && sunk q m (rows ++ row ∷ []))) 8 0 (omega arith) kept.2).0 in
      let place = both_pass (eqb (length rows + 1) (n + t)) (sunk q m (rows ++ row ∷ [])) (both_pass (leb 1 t) _ test).1 in
      let last : length rows + 1 ≡ n + t = eqb-true (length rows + 1) (n + t) place.0 in
      record {
        part = row ∷ [];
        rest = ys;
        split = refl;
        last = length-append rows (row ∷ []) ∙ last;
        operating = λ late. (subst (λ (p : Phase). DueRow m p row) (at_phase 0 Operating rows late (omega arith)) kept.1, tt);
        sinks = place.1;
      }

  -- and one that passes before it
  sinking_more : (rows : List Row) (row : Row) (ys : List Row) → line_fault q m n t rows (Ok row) ≡ 0 → Sinking (rows ++ row ∷ []) ys
      → Sinking rows (row ∷ ys)
  sinking_more rows row ys e s =
      let same = append_assoc rows (row ∷ []) s.part in
      let more = length-append rows (row ∷ []) in
      let before : length rows < n + t = omega (arith, s.last, length-append (rows ++ row ∷ []) s.part, more) in
      record {
        part = row ∷ s.part;
        rest = s.rest;
        split = ap {B = List Row} (λ l. row ∷ l) s.split;
        last = ap length (sym same) ∙ s.last;
        operating = λ late. ((row_passes 0 Operating rows row late before e).0, s.operating (omega (arith, more)));
        sinks = subst (λ (z : List Row). sunk q m z ≡ true) same s.sinks;
      }

  -- rows whose first fault is 8 have such a part
  pub eight_sinking : (rows : List Row) (xs : List Parsed) → (first_fault q m n t rows xs).number ≡ 8 → Sinking rows (rows_of xs)
  unfolding rows_of parsed_row first_fault
  eight_sinking rows [] e = absurd (end_not_eight (ltb (length rows) (due_after m n t rows)) (length rows + 4) e)
  eight_sinking rows (Ok row ∷ xs) e = elim (first_step 8 rows (Ok row) xs e) [
    | inl passed ↦ sinking_more rows row (rows_of xs) passed.0 (eight_sinking (rows ++ row ∷ []) xs passed.1)
    | inr met ↦ sinking_here rows row (rows_of xs) met.1
  ]
  eight_sinking rows (Err f ∷ xs) e = elim (first_step 8 rows (Err f) xs e) [
    | inl passed ↦ absurd (unread_met 0 none_late rows f passed.0)
    | inr met ↦ absurd (unread_met 8 eight_late rows f met.1)
  ]

-- a line that reads as no row is a fault
fault_met : (q : ℕ) (m : Memory) (n t : ℕ) (before : List Row) (f : ℕ) (xs : List Parsed) → (first_fault q m n t before (Err f ∷ xs)).number ≡ 0 → ⊥
fault_met q m n t before f xs e = unread_met q m n t 0 none_late before f (no_fault_step q m n t before (Err f) xs e).0

-- A list of parsed rows that meets no fault is rows, one for each entry.
pub no_fault_sound : (q : ℕ) (m : Memory) (n t : ℕ) (before : List Row) (xs : List Parsed) → (first_fault q m n t before xs).number ≡ 0
    → xs ≡ map Ok (rows_of xs)
unfolding rows_of parsed_row
no_fault_sound q m n t before [] e = refl
no_fault_sound q m n t before (Ok row ∷ xs) e =
    ap {B = List Parsed} (λ l. Ok row ∷ l) (no_fault_sound q m n t (before ++ row ∷ []) xs (no_fault_step q m n t before (Ok row) xs e).1)
no_fault_sound q m n t before (Err f ∷ xs) e = absurd (fault_met q m n t before f xs e)

-- Its rows are those of the four phases,
pub no_fault_phases : (q : ℕ) (m : Memory) (n t : ℕ) (xs : List Parsed) → (first_fault q m n t [] xs).number ≡ 0 → Parts q m n t (rows_of xs)
no_fault_phases q m n t xs e =
    no_fault_parts q m n t (rows_of xs) (subst (λ (ys : List Parsed). (first_fault q m n t [] ys).number ≡ 0) (no_fault_sound q m n t [] xs e) e)

-- and their numbers are below q.
pub no_fault_below : (q : ℕ) (m : Memory) (n t : ℕ) (before : List Row) (xs : List Parsed) → (first_fault q m n t before xs).number ≡ 0 → RowsBelow q (rows_of xs)
unfolding rows_of parsed_row
no_fault_below q m n t before [] e = tt
no_fault_below q m n t before (Ok row ∷ xs) e =
    let step = no_fault_step q m n t before (Ok row) xs e in
    ((row_kept q m n t 0 none_late before row step.0).0, no_fault_below q m n t (before ++ row ∷ []) xs step.1)
no_fault_below q m n t before (Err f ∷ xs) e = absurd (fault_met q m n t before f xs e)
