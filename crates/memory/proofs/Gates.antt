-- The gates of complete and well-formed rows are the formulas of document 01's table.
-- Assumes nothing.
use Prim.Native.Nat.{ℕ, ◌+◌, ◌-◌, ◌*◌}
use native.Mathlib.Omega.{arith}
use mathlib.Core.Path.{◌≡◌, refl, sym, ◌∙◌, ap}
use mathlib.Core.Bool.{true, cond}
use mathlib.Core.List.{List, [], ◌∷◌, ◌++◌}
use lib.Dec.{leb}
use lib.ListN.{length}
use borrow.Author.Tests.{eqb-true}
use Rattle.algebra.specs.Sum.{bit}
use Rattle.memory.specs.declared.Memory.{Memory}
use Rattle.memory.specs.declared.Memory.TheVariants.{Ram, Rom, Set, Stack, Queue}
use Rattle.memory.specs.declared.Op.{Op}
use Rattle.memory.specs.declared.Op.TheVariants.{Init, Access, Look, Member, Push, Pop, Enqueue, Dequeue, End, Range}
use Rattle.memory.specs.declared.Phase.{Phase}
use Rattle.memory.specs.declared.Phase.TheVariants.{Starting, Operating, Ending, Ranging}
use Rattle.memory.specs.declared.Row.{Row}
use Rattle.memory.specs.Names.{op_code, is_op}
use Rattle.memory.specs.Rows.{limit, sized, allowed, raised, lowered, ends_due, ranges_due, ops_due, op_in, columns, used}
use Rattle.memory.specs.Gates.{row_inputs, row_mults, costs, row_costs, inputs_of, mults_of, rows_with, puts, takes, inputs_formula, mults_formula}
use Rattle.memory.specs.File.{rows_of}
use Rattle.memory.specs.Statements.{GatesByFormula}
use Rattle.memory.proofs.Operations.{op_cases}
use Rattle.memory.proofs.ReadRows.{both_pass}
use Rattle.memory.proofs.Phases.{DueRows, Parts, only_op, parts_raised, no_fault_phases}

-- the sum over the rows of a number by op
unfoldable pub tally : (Op → ℕ) → List Row → ℕ
tally f [] = 0
tally f (row ∷ rows) = f row.op + tally f rows

-- over two lists
tally_append : (f : Op → ℕ) (xs ys : List Row) → tally f (xs ++ ys) ≡ tally f xs + tally f ys
unfolding tally
tally_append f [] ys = omega arith
tally_append f (x ∷ xs) ys = omega (arith, tally_append f xs ys)

-- inputs, multiplications, and the rows with an op, are such sums
tally_inputs : (m : Memory) (rows : List Row) → inputs_of m rows ≡ tally (row_inputs m) rows
unfolding inputs_of tally
tally_inputs m [] = refl
tally_inputs m (row ∷ rows) = ap (λ (k : ℕ). row_inputs m row.op + k) (tally_inputs m rows)

tally_mults : (m : Memory) (rows : List Row) → mults_of m rows ≡ tally (row_mults m) rows
unfolding mults_of tally
tally_mults m [] = refl
tally_mults m (row ∷ rows) = ap (λ (k : ℕ). row_mults m row.op + k) (tally_mults m rows)

-- 1 at one op, 0 at the others
unfoldable pub one_of : Op → Op → ℕ
one_of o x = cond (is_op x o) 1 0

tally_with : (o : Op) (rows : List Row) → rows_with o rows ≡ tally (one_of o) rows
unfolding rows_with tally one_of
tally_with o [] = refl
tally_with o (row ∷ rows) = ap (λ (k : ℕ). cond (is_op row.op o) 1 0 + k) (tally_with o rows)

-- rows of one op
tally_only : (f : Op → ℕ) (m : Memory) (p : Phase) (x : Op) (rows : List Row) → ops_due m p ≡ x ∷ [] → DueRows m p rows → tally f rows ≡ length rows * f x
unfolding tally
tally_only f m p x [] only due = omega arith
tally_only f m p x (row ∷ rows) only due =
    omega (arith, ap f (only_op row.op x (ap (op_in row.op) (sym only) ∙ due.0.0)), tally_only f m p x rows only due.1)

-- rows of two ops
Split : (Op → ℕ) → Op → Op → Op → Type 0
Split f x y o = f o ≡ one_of x o * f x + one_of y o * f y

-- the sum over such rows
tally_two : (f : Op → ℕ) (m : Memory) (p : Phase) (x y : Op) (rows : List Row) → ops_due m p ≡ x ∷ y ∷ [] → Split f x y x → Split f x y y → DueRows m p rows
    → tally f rows ≡ tally (one_of x) rows * f x + tally (one_of y) rows * f y
unfolding tally Split
tally_two f m p x y [] both hx hy due = omega arith
tally_two f m p x y (row ∷ rows) both hx hy due =
    let here : Split f x y row.op = op_cases (λ o g. Split f x y o) x y hx hx hy hy row.op 0 (ap (op_in row.op) (sym both) ∙ due.0.0) refl in
    omega (arith, here, tally_two f m p x y rows both hx hy due.1)

-- a sum over all rows, by their parts
tally_parts : (f : Op → ℕ) (q : ℕ) (m : Memory) (n t : ℕ) (rows : List Row) (p : Parts q m n t rows)
    → tally f rows ≡ n * f Init + (tally f p.ops + (length p.ends * f End + ranges_due m t * f Range))
unfolding ops_due
tally_parts f q m n t rows p =
    omega (
      arith,
      ap (tally f) p.whole,
      tally_append f p.inits (p.ops ++ (p.ends ++ p.ranges)),
      tally_append f p.ops (p.ends ++ p.ranges),
      tally_append f p.ends p.ranges,
      tally_only f m Starting Init p.inits refl p.starting ∙ ap (λ (k : ℕ). k * f Init) p.size,
      tally_only f m Ending End p.ends refl p.ending,
      tally_only f m Ranging Range p.ranges refl p.ranging ∙ ap (λ (k : ℕ). k * f Range) p.ages,
    )

-- the same where the operations have one op
pub parts_only : (f : Op → ℕ) (q : ℕ) (m : Memory) (n t : ℕ) (x : Op) (rows : List Row) (p : Parts q m n t rows) → ops_due m Operating ≡ x ∷ []
    → tally f rows ≡ n * f Init + (t * f x + (length p.ends * f End + ranges_due m t * f Range))
parts_only f q m n t x rows p only =
    omega (arith, tally_parts f q m n t rows p, tally_only f m Operating x p.ops only p.operating ∙ ap (λ (k : ℕ). k * f x) p.count)

-- the same where they have two
parts_two : (f : Op → ℕ) (q : ℕ) (m : Memory) (n t : ℕ) (x y : Op) (rows : List Row) (p : Parts q m n t rows) → ops_due m Operating ≡ x ∷ y ∷ [] → Split f x y x
    → Split f x y y
    → tally f rows ≡ n * f Init + (tally (one_of x) p.ops * f x + tally (one_of y) p.ops * f y + (length p.ends * f End + ranges_due m t * f Range))
parts_two f q m n t x y rows p both hx hy =
    omega (arith, tally_parts f q m n t rows p, tally_two f m Operating x y p.ops both hx hy p.operating)

-- the number of rows
tally_length : (rows : List Row) → tally (λ o. 1) rows ≡ length rows
unfolding tally
tally_length [] = refl
tally_length (row ∷ rows) = omega (arith, tally_length rows)

-- each op of a stack or queue is one of its two
stack_push : (f : Op → ℕ) → Split f Push Pop Push
unfolding Split one_of is_op op_code
stack_push f = omega arith

stack_pop : (f : Op → ℕ) → Split f Push Pop Pop
unfolding Split one_of is_op op_code
stack_pop f = omega arith

queue_enqueue : (f : Op → ℕ) → Split f Enqueue Dequeue Enqueue
unfolding Split one_of is_op op_code
queue_enqueue f = omega arith

queue_dequeue : (f : Op → ℕ) → Split f Enqueue Dequeue Dequeue
unfolding Split one_of is_op op_code
queue_dequeue f = omega arith

-- a sum over the rows of a stack and of a queue
pub stack_tally : (f : Op → ℕ) (q n t : ℕ) (rows : List Row) (p : Parts q Stack n t rows)
    → tally f rows ≡ n * f Init + (tally (one_of Push) p.ops * f Push + tally (one_of Pop) p.ops * f Pop + (length p.ends * f End + t * f Range))
unfolding ops_due ranges_due
stack_tally f q n t rows p = parts_two f q Stack n t Push Pop rows p refl (stack_push f) (stack_pop f)

pub queue_tally : (f : Op → ℕ) (q n t : ℕ) (rows : List Row) (p : Parts q Queue n t rows)
    → tally f rows ≡ n * f Init + (tally (one_of Enqueue) p.ops * f Enqueue + tally (one_of Dequeue) p.ops * f Dequeue + (length p.ends * f End + 0 * f Range))
unfolding ops_due ranges_due
queue_tally f q n t rows p = parts_two f q Queue n t Enqueue Dequeue rows p refl (queue_enqueue f) (queue_dequeue f)

-- the counts by the formulas
abbrev ByFormula : Memory → ℕ → ℕ → List Row → Type 0
ByFormula m n t rows =
    (inputs_of m rows ≡ inputs_formula m n t (puts rows) (takes rows) (raised rows - lowered rows))
    × (mults_of m rows ≡ mults_formula m n t (puts rows) (takes rows) (raised rows - lowered rows))

-- | ram | 4T + 2n | 6T + 2n |
ram_gates : (q n t : ℕ) (rows : List Row) → Parts q Ram n t rows → ByFormula Ram n t rows
unfolding inputs_formula mults_formula row_inputs used columns bit row_mults row_costs costs ends_due ranges_due ops_due
ram_gates q n t rows p = (
  omega (arith, tally_inputs Ram rows, parts_only (row_inputs Ram) q Ram n t Access rows p refl, p.depth),
  omega (arith, tally_mults Ram rows, parts_only (row_mults Ram) q Ram n t Access rows p refl, p.depth),
)

-- | rom | 2T + n | 2T + 2n |
rom_gates : (q n t : ℕ) (rows : List Row) → Parts q Rom n t rows → ByFormula Rom n t rows
unfolding inputs_formula mults_formula row_inputs used columns bit row_mults row_costs costs ends_due ranges_due ops_due
rom_gates q n t rows p = (
  omega (arith, tally_inputs Rom rows, parts_only (row_inputs Rom) q Rom n t Look rows p refl, p.depth),
  omega (arith, tally_mults Rom rows, parts_only (row_mults Rom) q Rom n t Look rows p refl, p.depth),
)

-- | set | T + n | 2T + 2n |
set_gates : (q n t : ℕ) (rows : List Row) → Parts q Set n t rows → ByFormula Set n t rows
unfolding inputs_formula mults_formula row_inputs used columns bit row_mults row_costs costs ends_due ranges_due ops_due
set_gates q n t rows p = (
  omega (arith, tally_inputs Set rows, parts_only (row_inputs Set) q Set n t Member rows p refl, p.depth),
  omega (arith, tally_mults Set rows, parts_only (row_mults Set) q Set n t Member rows p refl, p.depth),
)

-- the pushes and pops of a stack, which are its operations, and its depth
record Moves (x y : Op) (t d : ℕ) (rows ops : List Row) : Type 0 where
  added : puts rows ≡ tally (one_of x) ops
  removed : takes rows ≡ tally (one_of y) ops
  every : t ≡ tally (one_of x) ops + tally (one_of y) ops
  depth : raised rows - lowered rows ≡ d

-- the pushes and pops of a stack
stack_moves : (q n t : ℕ) (rows : List Row) (p : Parts q Stack n t rows) → Moves Push Pop t (length p.ends) rows p.ops
unfolding puts takes one_of is_op op_code ends_due ops_due
stack_moves q n t rows p = record {
  added = omega (arith, tally_with Push rows, tally_with Enqueue rows, stack_tally (one_of Push) q n t rows p, stack_tally (one_of Enqueue) q n t rows p);
  removed = omega (arith, tally_with Pop rows, tally_with Dequeue rows, stack_tally (one_of Pop) q n t rows p, stack_tally (one_of Dequeue) q n t rows p);
  every = omega (
    arith,
    tally_length p.ops,
    tally_two (λ o. 1) Stack Operating Push Pop p.ops refl (stack_push (λ o. 1)) (stack_pop (λ o. 1)) p.operating,
    p.count,
  );
  depth = let same = parts_raised q Stack n t rows p in omega (arith, same.0, same.1, p.depth);
}

-- the enqueues and dequeues of a queue
queue_moves : (q n t : ℕ) (rows : List Row) (p : Parts q Queue n t rows) → Moves Enqueue Dequeue t (length p.ends) rows p.ops
unfolding puts takes one_of is_op op_code ends_due ops_due
queue_moves q n t rows p = record {
  added = omega (arith, tally_with Push rows, tally_with Enqueue rows, queue_tally (one_of Push) q n t rows p, queue_tally (one_of Enqueue) q n t rows p);
  removed = omega (arith, tally_with Pop rows, tally_with Dequeue rows, queue_tally (one_of Pop) q n t rows p, queue_tally (one_of Dequeue) q n t rows p);
  every = omega (
    arith,
    tally_length p.ops,
    tally_two (λ o. 1) Queue Operating Enqueue Dequeue p.ops refl (queue_enqueue (λ o. 1)) (queue_dequeue (λ o. 1)) p.operating,
    p.count,
  );
  depth = let same = parts_raised q Queue n t rows p in omega (arith, same.0, same.1, p.depth);
}

-- | stack | 3Q + T + 2D | 2P + 4Q + T + D |
stack_gates : (q n t : ℕ) (rows : List Row) → n ≡ 0 → Parts q Stack n t rows → ByFormula Stack n t rows
unfolding inputs_formula mults_formula row_inputs used columns bit row_mults row_costs costs
stack_gates q n t rows none p =
    let moves = stack_moves q n t rows p in (
      omega (arith, tally_inputs Stack rows, stack_tally (row_inputs Stack) q n t rows p, moves.added, moves.removed, moves.every, moves.depth),
      omega (arith, tally_mults Stack rows, stack_tally (row_mults Stack) q n t rows p, moves.added, moves.removed, moves.every, moves.depth),
    )

-- | queue | Q + D | 2P + 3Q + D |
queue_gates : (q n t : ℕ) (rows : List Row) → n ≡ 0 → Parts q Queue n t rows → ByFormula Queue n t rows
unfolding inputs_formula mults_formula row_inputs used columns bit row_mults row_costs costs
queue_gates q n t rows none p =
    let moves = queue_moves q n t rows p in (
      omega (arith, tally_inputs Queue rows, queue_tally (row_inputs Queue) q n t rows p, moves.added, moves.removed, moves.depth),
      omega (arith, tally_mults Queue rows, queue_tally (row_mults Queue) q n t rows p, moves.added, moves.removed, moves.depth),
    )

-- "Gates of an accepted file", for rows by their parts
pub parts_gates : (q : ℕ) (m : Memory) (n t : ℕ) (rows : List Row) → sized m n ≡ true → Parts q m n t rows → ByFormula m n t rows
unfolding sized
parts_gates q Ram n t rows h p = ram_gates q n t rows p
parts_gates q Rom n t rows h p = rom_gates q n t rows p
parts_gates q Set n t rows h p = set_gates q n t rows p
parts_gates q Stack n t rows h p = stack_gates q n t rows (eqb-true n 0 h) p
parts_gates q Queue n t rows h p = queue_gates q n t rows (eqb-true n 0 h) p

-- the same of a list of parsed rows
pub gates_by_formula : GatesByFormula
unfolding allowed
gates_by_formula q m n t xs h e = parts_gates q m n t (rows_of xs) (both_pass (sized m n) (leb t limit) h).0 (no_fault_phases q m n t xs e)
