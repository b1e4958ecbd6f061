-- The ram of document 01, from a right trace to the honest rows: where every access fits, the filler fills the operations, and its rows have the same trace.
-- Assumes nothing.
use Prim.Native.Nat.{ℕ, suc, ◌<◌}
use mathlib.Core.Path.{◌≡◌, refl, sym, ◌∙◌, ap, ap₂, subst}
use mathlib.Core.Bool.{Bool, true, false, cond, and-eq-true_iff}
use mathlib.Core.List.{List, [], ◌∷◌, map}
use native.Mathlib.Omega.{arith}
use lib.Dec.{eqb, ltb}
use lib.ListN.{length, get_or, length-map}
use borrow.Author.Tests.{ltb-true}
use Rattle.memory.specs.declared.Memory.TheVariants.{Ram}
use Rattle.memory.specs.declared.Row.{Row}
use Rattle.memory.specs.Content.{Content, no_content, same_content}
use Rattle.memory.proofs.Content.{same_content_lem}
use Rattle.runs.specs.Plain.{Operation, store, load, fits, after, all_fit, operation_of}
use Rattle.runs.specs.Honest.{input_of, filled_row, Cell, ram_age, ram_row, ram_cells, possible}
use Rattle.runs.proofs.RamCells.{contents, contents_at, start_cells, start_contents, access_length, access_after}
use Rattle.runs.proofs.RamComplete.{ram_ops, ram_op_rows, Within, within_possible, honest_reads, honest_accessed}

-- a store or load that fits has an address of the content
below_of_fits : (b : Bool) (content : List Content) (a : ℕ) (v o : Content) → fits content (cond b (store a v) (load a v o)) ≡ true → a < length content
unfolding fits
below_of_fits true content a v o e = ltb-true a (length content) e
below_of_fits false content a v o e = ltb-true a (length content) ((and-eq-true_iff (ltb a (length content)) (same_content o (get_or content a no_content))).0 e).0

-- its old, if the trace has one, is what stands there
old_of_fits : (b : Bool) (content : List Content) (a : ℕ) (v o : Content) → fits content (cond b (store a v) (load a v o)) ≡ true
    → cond b (store a v) (load a v (get_or content a no_content)) ≡ cond b (store a v) (load a v o)
unfolding fits
old_of_fits true content a v o e = refl
old_of_fits false content a v o e =
    ap (load a v) (sym (same_content_lem o (get_or content a no_content) ((and-eq-true_iff (ltb a (length content)) (same_content o (get_or content a no_content))).0 e).1))

-- an access that fits has an address of the content, and its honest row is the same operation
access_below : (content : List Content) (row : Row) → fits content (operation_of Ram row) ≡ true → row.addr < length content
unfolding operation_of
access_below content row e = below_of_fits (eqb row.guard 1) content row.addr row.value row.old e

access_same : (cells : List Cell) (clock : ℕ) (ages : List ℕ) (row : Row) → fits (contents cells) (operation_of Ram row) ≡ true
    → operation_of Ram (ram_row cells clock ages (input_of row)) ≡ operation_of Ram row
unfolding operation_of ram_row filled_row input_of
access_same cells clock ages row e =
    ap (λ (o : Content). cond (eqb row.guard 1) (store row.addr row.value) (load row.addr row.value o)) (sym (contents_at cells row.addr))
    ∙ old_of_fits (eqb row.guard 1) (contents cells) row.addr row.value row.old e

-- after it the contents are those of the honest cells
access_contents : (cells : List Cell) (clock : ℕ) (ages : List ℕ) (row : Row) → fits (contents cells) (operation_of Ram row) ≡ true
    → after (contents cells) (operation_of Ram row) ≡ contents (ram_cells cells clock (input_of row))
access_contents cells clock ages row e =
    ap (after (contents cells)) (sym (access_same cells clock ages row e))
    ∙ (access_after clock cells (ram_row cells clock ages (input_of row)) (honest_reads cells clock ages (input_of row) below)
    ∙ ap contents (honest_accessed cells clock ages (input_of row)))
  where
    below : (input_of row).addr < length cells
    below = unfold input_of in omega (arith, access_below (contents cells) row e, length-map cells (λ (c : Cell). c.content))

-- the operations of the honest rows are those of accesses that fit
right_same_from : (cells : List Cell) (clock : ℕ) (ages : List ℕ) (ops : List Row) → all_fit (contents cells) (map (operation_of Ram) ops) ≡ true
    → map (operation_of Ram) (ram_ops cells clock ages (map input_of ops)) ≡ map (operation_of Ram) ops
unfolding all_fit ram_ops
right_same_from cells clock ages [] e = refl
right_same_from cells clock ages (row ∷ rows) e =
    let both = (and-eq-true_iff (fits (contents cells) (operation_of Ram row)) (all_fit (after (contents cells) (operation_of Ram row)) (map (operation_of Ram) rows))).0 e in
    ap₂ {C = List Operation} (λ o os. o ∷ os) (access_same cells clock ages row both.0)
    (right_same_from (ram_cells cells clock (input_of row)) (suc clock) (ram_age cells clock (input_of row) ∷ ages) rows
    (rw (access_contents cells clock ages row both.0) at both.1))

-- the addresses of accesses that fit are below the number of cells
right_within : (content : List Content) (ops : List Row) → all_fit content (map (operation_of Ram) ops) ≡ true → Within (length content) (map input_of ops)
unfolding all_fit input_of
right_within content [] e = tt
right_within content (row ∷ rows) e =
    let both = (and-eq-true_iff (fits content (operation_of Ram row)) (all_fit (after content (operation_of Ram row)) (map (operation_of Ram) rows))).0 e in (
      access_below content row both.0,
      subst (λ (n : ℕ). Within n (map input_of rows)) (access_length content row) (right_within (after content (operation_of Ram row)) rows both.1),
    )

-- a right trace is one that the filler fills
pub ram_right_possible : (values : List Content) (ops : List Row) → all_fit values (map (operation_of Ram) ops) ≡ true → possible Ram values (map input_of ops) ≡ true
ram_right_possible values ops e = within_possible values (map input_of ops) (right_within values ops e)

-- with the same operations
pub ram_right_same : (values : List Content) (ops : List Row) → all_fit values (map (operation_of Ram) ops) ≡ true
    → map (operation_of Ram) (ram_op_rows values (map input_of ops)) ≡ map (operation_of Ram) ops
ram_right_same values ops e = right_same_from (start_cells values) 1 [] ops (rw (start_contents values) e)
