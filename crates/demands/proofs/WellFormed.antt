-- What the rows of a file without one of the faults 1 to 8 are, by the parts that the equations name: as many init rows, operations, end rows and range rows as
-- are due, operations with an op that is due and a guard of 0 or 1, and no 8; and the numbers of each part are below q.
-- Assumes nothing.
use Prim.Native.Nat.{ℕ, ◌+◌, ◌≤◌}
use mathlib.Core.Path.{◌≡◌, sym, ◌∙◌, ap, subst}
use mathlib.Core.Bool.{false}
use mathlib.Core.List.{List, [], ◌++◌}
use native.Mathlib.Omega.{arith}
use lib.ListN.{length, take, drop, length-append}
use Rattle.memory.specs.declared.Memory.{Memory}
use Rattle.memory.specs.declared.Row.{Row}
use Rattle.memory.specs.Faults.{Parsed}
use Rattle.memory.specs.Rows.{raised, lowered, ends_due, ranges_due, sunk, due_after, init_rows, operation_rows}
use Rattle.memory.specs.Equations.{end_rows, range_rows}
use Rattle.memory.specs.File.{rows_of, first_fault}
use Rattle.memory.proofs.Operations.{Ops}
use Rattle.memory.proofs.ReadRows.{RowsBelow, taken_below, dropped_below}
use Rattle.memory.proofs.Phases.{Parts, parts_raised, parts_inits, parts_ops, parts_ends, parts_ranges, parts_depth, parts_floats, due_ops, no_fault_phases}

-- What is known of the rows of a file without fault
pub record WellFormed (q : ℕ) (m : Memory) (n t : ℕ) (rows : List Row) : Type 0 where
  -- as many rows as are due
  pub due : length rows ≡ due_after m n t rows
  pub inits : length (init_rows n rows) ≡ n
  pub operations : length (operation_rows n t rows) ≡ t
  pub ends : length (end_rows m n t rows) ≡ ends_due m n (raised rows) (lowered rows)
  pub ranges : length (range_rows m n t rows) ≡ ranges_due m t
  -- the operations have ops that are due, and guards of 0 or 1
  pub named : Ops m (operation_rows n t rows)
  -- only operations move the counts
  pub rises : raised rows ≡ raised (operation_rows n t rows)
  pub falls : lowered rows ≡ lowered (operation_rows n t rows)
  -- no 8
  pub floats : 1 ≤ t → sunk q m (take (n + t) rows) ≡ false

-- the rows of the four phases
pub parts_well_formed : (q : ℕ) (m : Memory) (n t : ℕ) (rows : List Row) → Parts q m n t rows → WellFormed q m n t rows
unfolding due_after
parts_well_formed q m n t rows p =
    let ops = parts_ops q m n t rows p in
    let moves = parts_raised q m n t rows p in record {
      due =
          ap length p.whole
          ∙ omega (
            arith,
            length-append p.inits (p.ops ++ (p.ends ++ p.ranges)),
            length-append p.ops (p.ends ++ p.ranges),
            length-append p.ends p.ranges,
            p.size,
            p.count,
            parts_depth q m n t rows p,
            p.ages,
          );
      inits = ap length (parts_inits q m n t rows p) ∙ p.size;
      operations = ap length ops ∙ p.count;
      ends = ap length (parts_ends q m n t rows p) ∙ parts_depth q m n t rows p;
      ranges = ap length (parts_ranges q m n t rows p) ∙ p.ages;
      named = subst (Ops m) (sym ops) (due_ops m p.ops p.operating);
      rises = moves.0 ∙ ap raised (sym ops);
      falls = moves.1 ∙ ap lowered (sym ops);
      floats = parts_floats q m n t rows p;
    }

-- the rows of a list of parsed rows without fault
pub no_fault_well_formed :
    (q : ℕ) (m : Memory) (n t : ℕ) (xs : List Parsed) → (first_fault q m n t [] xs).number ≡ 0
    → WellFormed q m n t (rows_of xs)
no_fault_well_formed q m n t xs e =
    parts_well_formed q m n t (rows_of xs) (no_fault_phases q m n t xs e)

-- the parts of rows whose numbers are below q
pub record PartsBelow (q : ℕ) (m : Memory) (n t : ℕ) (rows : List Row) : Type 0 where
  pub inits : RowsBelow q (init_rows n rows)
  pub operations : RowsBelow q (operation_rows n t rows)
  pub ends : RowsBelow q (end_rows m n t rows)
  pub ranges : RowsBelow q (range_rows m n t rows)

-- each part of such rows has its numbers below q
pub parts_below : (q : ℕ) (m : Memory) (n t : ℕ) (rows : List Row) → RowsBelow q rows → PartsBelow q m n t rows
unfolding end_rows range_rows
parts_below q m n t rows h = record {
  inits = taken_below q n rows h;
  operations = taken_below q t (drop n rows) (dropped_below q n rows h);
  ends = taken_below q (ends_due m n (raised rows) (lowered rows)) (drop (n + t) rows) (dropped_below q (n + t) rows h);
  ranges = dropped_below q (n + t + ends_due m n (raised rows) (lowered rows)) rows h;
}
