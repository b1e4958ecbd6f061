-- The queue of document 01, from the filler's rows to balanced hashes: the operation rows and the end rows that the filler writes; where every
-- operation is possible, the elements enqueued are those dequeued and then those of the end rows, as many as the depth, no depth factor
-- is 0, and every operation fits. And a right trace is possible, and its filled rows have the same operations.
-- Assumes nothing.
use Prim.Native.Nat.{ℕ, suc, ◌+◌, ◌-◌, ◌<◌}
use mathlib.Core.Path.{◌≡◌, refl, sym, ◌∙◌, ap, ap₂}
use mathlib.Core.Logic.{◌≢◌}
use mathlib.Core.Bool.{Bool, true, false, cond, false≢true, and-eq-true_iff}
use mathlib.Core.List.{List, [], ◌∷◌, ◌++◌, map, append-nil, append_assoc}
use native.Mathlib.Omega.{arith}
use lib.Dec.{eqb}
use lib.ListN.{length, get_or, drop, length-append, length-map}
use Rattle.algebra.specs.Prime.{Prime}
use Rattle.memory.specs.declared.Memory.TheVariants.{Queue}
use Rattle.memory.specs.declared.Op.TheVariants.{Enqueue, Dequeue}
use Rattle.memory.specs.declared.Row.{Row}
use Rattle.memory.specs.Content.{Content, no_content, same_content}
use Rattle.memory.specs.Names.{op_code, is_op}
use Rattle.memory.specs.Rows.{raise_by, lower_by, raised, lowered, ops_due, depth_product}
use Rattle.memory.specs.Equations.{enqueues, dequeues, end_olds}
use Rattle.memory.proofs.Content.{same_content_lem, content_same}
use Rattle.runs.specs.Plain.{Operation, enqueue, skipped_enqueue, dequeue, skipped_dequeue, operation_of, all_fit, fits, after, holds}
use Rattle.runs.specs.Honest.{Input, input_of, filled_row, bare, end_row, queue_from, impossible, input_operation, possible}
use Rattle.memory.proofs.Operations.{Ops, row_at, row_cases}
use Rattle.runs.proofs.Inputs.{Inputs, input_at, input_cases}
use Rattle.runs.proofs.QueueDepth.{queue_depth_nonzero}

-- the row that the filler writes for an operation of a queue, and the queue's elements after it
unfoldable pub queue_row : List Content → Input → Row
queue_row content i = filled_row i (cond (is_op i.op Enqueue) no_content (cond (eqb i.guard 1) (get_or content 0 no_content) no_content)) 0 0

unfoldable pub queue_content : List Content → Input → List Content
queue_content content i =
    cond (is_op i.op Enqueue)
    (cond (eqb i.guard 1) (content ++ i.value ∷ []) content)
    (cond (eqb i.guard 1) (drop 1 content) content)

-- the operation rows, the elements left, and the end rows
unfoldable pub queue_ops : List Content → List Input → List Row
queue_ops content [] = []
queue_ops content (i ∷ is) = queue_row content i ∷ queue_ops (queue_content content i) is

unfoldable pub queue_final : List Content → List Input → List Content
queue_final content [] = content
queue_final content (i ∷ is) = queue_final (queue_content content i) is

unfoldable pub queue_ends : List Content → List Row
queue_ends content = map (λ v. end_row no_content v 0 0) content

-- one step of the filler
queue_step :
    (i : Input) (rest : List Content → List Row) (b : Bool) (o : Content) (xs ys : List Content)
    → cond b (bare i ∷ rest xs) (filled_row i o 0 0 ∷ rest ys) ≡ filled_row i (cond b no_content o) 0 0 ∷ rest (cond b xs ys)
unfolding bare
queue_step i rest true o xs ys = refl
queue_step i rest false o xs ys = refl

-- the filler's rows are the operation rows and the end rows
pub queue_filled : (content : List Content) (is : List Input) → queue_from content is ≡ queue_ops content is ++ queue_ends (queue_final content is)
unfolding queue_from queue_ops queue_final queue_ends queue_row queue_content
queue_filled content [] = refl
queue_filled content (i ∷ is) =
    queue_step i (λ xs. queue_from xs is) (is_op i.op Enqueue) _ _ _
    ∙ ap {B = List Row} (λ rows. queue_row content i ∷ rows) (queue_filled (queue_content content i) is)

-- op and guard are copied
pub queue_ops_lem : (content : List Content) (is : List Input) → Inputs Queue is → Ops Queue (queue_ops content is)
unfolding queue_ops queue_row filled_row
queue_ops_lem content [] due = tt
queue_ops_lem content (i ∷ is) due = (due.0, due.1, queue_ops_lem (queue_content content i) is due.2)

-- the operation rows are filled from the inputs,
pub queue_inputs : (content : List Content) (is : List Input) → map input_of (queue_ops content is) ≡ is
unfolding queue_ops queue_row filled_row input_of
queue_inputs content [] = refl
queue_inputs content (i ∷ is) = ap {B = List Input} (λ l. i ∷ l) (queue_inputs (queue_content content i) is)

-- one row for each
pub queue_length : (content : List Content) (is : List Input) → length (queue_ops content is) ≡ length is
unfolding queue_ops
queue_length content [] = refl
queue_length content (i ∷ is) = ap suc (queue_length (queue_content content i) is)

-- the end rows hold the elements left
pub queue_olds : (content : List Content) → end_olds (queue_ends content) ≡ content
unfolding queue_ends end_olds end_row
queue_olds [] = refl
queue_olds (v ∷ content) = ap {B = List Content} (λ l. v ∷ l) (queue_olds content)

-- what holds of the rows from some content on
record Filled (content : List Content) (is : List Input) : Type 0 where
  -- the elements in the queue and those enqueued are those dequeued and those left
  equal : content ++ enqueues (queue_ops content is) ≡ dequeues (queue_ops content is) ++ queue_final content is
  -- the depth
  depth : length content + raised (queue_ops content is) ≡ lowered (queue_ops content is) + length (queue_final content is)
  -- every operation fits
  fit : all_fit content (map (operation_of Queue) (queue_ops content is)) ≡ true

-- what is to be shown of the operations from some point on
abbrev Complete : List Input → Type 0
Complete is = (content : List Content) → possible Queue content is ≡ true → Filled content is

-- an executed enqueue
complete_enqueue : (i : Input) (is : List Input) → Complete is → Complete (input_at Enqueue 1 i ∷ is)
unfolding input_at is_op op_code raise_by lower_by raised lowered enqueues dequeues operation_of all_fit fits after impossible input_operation possible bare filled_row queue_row queue_content queue_ops queue_final
complete_enqueue i is rest content can =
    let r = rest (content ++ i.value ∷ []) can in
    record {
      equal = sym (append_assoc content (i.value ∷ []) _) ∙ r.equal;
      depth = omega (arith, r.depth, length-append content (i.value ∷ []));
      fit = r.fit;
    }

-- an executed dequeue of a queue that holds an element
complete_dequeue : (i : Input) (is : List Input) → Complete is → Complete (input_at Dequeue 1 i ∷ is)
unfolding input_at is_op op_code raise_by lower_by raised lowered enqueues dequeues operation_of all_fit fits after holds impossible input_operation possible bare filled_row queue_row queue_content queue_ops queue_final
complete_dequeue i is rest [] can = absurd (false≢true can)
complete_dequeue i is rest (c ∷ content) can =
    let r = rest content can in
    record {
      equal = ap {B = List Content} (λ l. c ∷ l) r.equal;
      depth = omega (arith, r.depth);
      fit = rw (content_same c c refl) r.fit;
    }

-- a skipped enqueue
complete_skipped_enqueue : (i : Input) (is : List Input) → Complete is → Complete (input_at Enqueue 0 i ∷ is)
unfolding input_at is_op op_code raise_by lower_by raised lowered enqueues dequeues operation_of all_fit fits after impossible input_operation possible bare filled_row queue_row queue_content queue_ops queue_final
complete_skipped_enqueue i is rest content can =
    let r = rest content can in record { equal = r.equal; depth = omega (arith, r.depth); fit = r.fit }

-- a skipped dequeue
complete_skipped_dequeue : (i : Input) (is : List Input) → Complete is → Complete (input_at Dequeue 0 i ∷ is)
unfolding input_at is_op op_code raise_by lower_by raised lowered enqueues dequeues operation_of all_fit fits after impossible input_operation possible bare filled_row queue_row queue_content queue_ops queue_final
complete_skipped_dequeue i is rest content can =
    let r = rest content can in record { equal = r.equal; depth = omega (arith, r.depth); fit = r.fit }

-- all operations from some point on
complete_from : (is : List Input) → Inputs Queue is → Complete is
unfolding raised lowered enqueues dequeues all_fit queue_ops queue_final ops_due
complete_from [] due = λ content can. record { equal = append-nil content; depth = omega arith; fit = refl }
complete_from (i ∷ is) due =
    let rest : Complete is = complete_from is due.2 in
    input_cases (λ (j : Input). Complete (j ∷ is)) Enqueue Dequeue i
    (complete_enqueue i is rest)
    (complete_skipped_enqueue i is rest)
    (complete_dequeue i is rest)
    (complete_skipped_dequeue i is rest)
    due.0
    due.1

-- the filler's operation rows and end rows
abbrev pub queue_op_rows : List Input → List Row
queue_op_rows is = queue_ops [] is

abbrev pub queue_end_rows : List Input → List Row
queue_end_rows is = queue_ends (queue_final [] is)

-- Where every operation is possible: the elements enqueued are those dequeued and those of the end rows,
pub queue_balance :
    (is : List Input) → Inputs Queue is → possible Queue [] is ≡ true
    → enqueues (queue_op_rows is) ≡ dequeues (queue_op_rows is) ++ end_olds (queue_end_rows is)
queue_balance is due can =
    (complete_from is due [] can).equal ∙ ap (λ (l : List Content). dequeues (queue_op_rows is) ++ l) (sym (queue_olds (queue_final [] is)))

-- there are as many end rows as the depth,
pub queue_ends_due :
    (is : List Input) → Inputs Queue is → possible Queue [] is ≡ true
    → length (queue_end_rows is) ≡ raised (queue_op_rows is) - lowered (queue_op_rows is)
unfolding queue_ends
queue_ends_due is due can =
    length-map (queue_final [] is) (λ v. end_row no_content v 0 0) ∙ omega (arith, (complete_from is due [] can).depth)

-- every operation fits,
pub queue_fits :
    (is : List Input) → Inputs Queue is → possible Queue [] is ≡ true → all_fit [] (map (operation_of Queue) (queue_op_rows is)) ≡ true
queue_fits is due can = (complete_from is due [] can).fit

-- and the depth product is not 0
pub queue_nonzero :
    (q : ℕ) (is : List Input) → Prime q → Inputs Queue is → length is < q → possible Queue [] is ≡ true
    → depth_product q 0 0 (queue_op_rows is) ≢ 0
queue_nonzero q is prime due room can =
    queue_depth_nonzero q (queue_op_rows is) prime (queue_ops_lem [] is due) (omega (arith, queue_length [] is)) (queue_fits is due can)

-- of rows whose operations fit: they are possible, and the filled rows have the same operations
record Refilled (content : List Content) (rows : List Row) : Type 0 where
  can : possible Queue content (map input_of rows) ≡ true
  kept : map (operation_of Queue) (queue_ops content (map input_of rows)) ≡ map (operation_of Queue) rows

-- what is to be shown of the rows from some point on
abbrev Refills : List Row → Type 0
Refills rows = (content : List Content) → all_fit content (map (operation_of Queue) rows) ≡ true → Refilled content rows

-- an executed enqueue
refills_enqueue : (row : Row) (rows : List Row) → Refills rows → Refills (row_at Enqueue 1 row ∷ rows)
unfolding row_at input_of is_op op_code operation_of all_fit fits after impossible input_operation possible bare filled_row queue_row queue_content queue_ops
refills_enqueue row rows rest content fit =
    let r = rest (content ++ row.value ∷ []) fit in
    record { can = r.can; kept = ap {B = List Operation} (λ l. enqueue row.value ∷ l) r.kept }

-- a skipped enqueue
refills_skipped_enqueue : (row : Row) (rows : List Row) → Refills rows → Refills (row_at Enqueue 0 row ∷ rows)
unfolding row_at input_of is_op op_code operation_of all_fit fits after impossible input_operation possible bare filled_row queue_row queue_content queue_ops
refills_skipped_enqueue row rows rest content fit =
    let r = rest content fit in
    record { can = r.can; kept = ap {B = List Operation} (λ l. skipped_enqueue row.value ∷ l) r.kept }

-- an executed dequeue: its old is the element at the front
refills_dequeue : (row : Row) (rows : List Row) → Refills rows → Refills (row_at Dequeue 1 row ∷ rows)
unfolding row_at input_of is_op op_code operation_of all_fit fits after holds impossible input_operation possible bare filled_row queue_row queue_content queue_ops
refills_dequeue row rows rest [] fit = absurd (false≢true fit)
refills_dequeue row rows rest (c ∷ content) fit =
    let both = (and-eq-true_iff (same_content row.old c) _).0 fit in
    let r = rest content both.1 in
    record {
      can = r.can;
      kept = ap₂ {C = List Operation} (λ o l. dequeue o ∷ l) (sym (same_content_lem row.old c both.0)) r.kept;
    }

-- a skipped dequeue
refills_skipped_dequeue : (row : Row) (rows : List Row) → Refills rows → Refills (row_at Dequeue 0 row ∷ rows)
unfolding row_at input_of is_op op_code operation_of all_fit fits after impossible input_operation possible bare filled_row queue_row queue_content queue_ops
refills_skipped_dequeue row rows rest content fit =
    let r = rest content fit in
    record { can = r.can; kept = ap {B = List Operation} (λ l. skipped_dequeue ∷ l) r.kept }

-- all rows from some point on
refills_from : (rows : List Row) → Ops Queue rows → Refills rows
unfolding possible queue_ops ops_due
refills_from [] due = λ content fit. record { can = refl; kept = refl }
refills_from (row ∷ rows) due =
    let rest : Refills rows = refills_from rows due.2 in
    row_cases (λ (r : Row). Refills (r ∷ rows)) Enqueue Dequeue row
    (refills_enqueue row rows rest)
    (refills_skipped_enqueue row rows rest)
    (refills_dequeue row rows rest)
    (refills_skipped_dequeue row rows rest)
    due.0
    due.1

-- a right trace is one that the filler fills,
pub queue_right_possible :
    (rows : List Row) → Ops Queue rows → all_fit [] (map (operation_of Queue) rows) ≡ true → possible Queue [] (map input_of rows) ≡ true
queue_right_possible rows due fit = (refills_from rows due [] fit).can

-- with the same operations
pub queue_right_operations :
    (rows : List Row) → Ops Queue rows → all_fit [] (map (operation_of Queue) rows) ≡ true
    → map (operation_of Queue) (queue_op_rows (map input_of rows)) ≡ map (operation_of Queue) rows
queue_right_operations rows due fit = (refills_from rows due [] fit).kept
