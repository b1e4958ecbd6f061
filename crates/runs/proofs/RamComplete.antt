-- The ram of document 01, the honest rows: they fall into operations, end rows and range rows; their records written are the records read and ended,
-- their ages lie in the range, their lookups balance, and their trace is right.
-- Assumes nothing.
use Prim.Native.Nat.{ℕ, zero, suc, ◌+◌, ◌≤◌, ◌<◌}
use mathlib.Core.Path.{◌≡◌, refl, sym, ◌∙◌, ap, ap₂, subst}
use mathlib.Core.Bool.{Bool, true, false, cond, and-eq-true_iff}
use mathlib.Core.List.{List, [], ◌∷◌, ◌++◌, map}
use native.Mathlib.Omega.{arith}
use lib.Dec.{eqb, ltb}
use lib.ListN.{length, set, length-set, length-map}
use borrow.Author.Tests.{ltb-true, lt-ltb}
use Rattle.algebra.specs.Modulo.{minus}
use Rattle.algebra.specs.Multiset.{total, EquallyOften}
use Rattle.algebra.proofs.Multiset.{total_append}
use Rattle.memory.specs.declared.Memory.TheVariants.{Ram}
use Rattle.memory.specs.declared.Row.{Row}
use Rattle.memory.specs.Content.{Content, no_content}
use Rattle.memory.specs.Equations.{Triple, triple, Lookup, init_writes, access_read, new_of, access_writes, access_lookups, cell_ends, range_setup, range_read, range_write, range_ends}
use Rattle.runs.specs.Plain.{store, load, after, operation_of}
use Rattle.runs.specs.Honest.{Input, input_of, filled_row, bare, end_row, occurrences, range_rows_from, Cell, cell, cell_at, ram_age, ram_row, ram_cells, ram_ends, ram_from, impossible, input_operation, possible, operations_filled}
use Rattle.runs.proofs.Clock.{age_of_earlier}
use Rattle.runs.proofs.HonestLookups.{honest, keys_after, honest_lookups, ages_after, AgesIn, range_complete}
use Rattle.runs.proofs.HonestAges.{Before, before_later}
use Rattle.runs.proofs.RamCells.{cell_record, cell_records, start_cells, start_records, Reads, accessed, access_exchange, access_length, Balanced}

-- the honest operation rows from a clock on, over the ages looked up before
unfoldable pub ram_ops : List Cell → ℕ → List ℕ → List Input → List Row
ram_ops cells clock ages [] = []
ram_ops cells clock ages (i ∷ is) = ram_row cells clock ages i ∷ ram_ops (ram_cells cells clock i) (suc clock) (ram_age cells clock i ∷ ages) is

-- the cells after them
unfoldable pub ram_final_cells : List Cell → ℕ → List Input → List Cell
ram_final_cells cells clock [] = cells
ram_final_cells cells clock (i ∷ is) = ram_final_cells (ram_cells cells clock i) (suc clock) is

-- the ages that they look up, in their order
unfoldable pub ram_ages : List Cell → ℕ → List Input → List ℕ
ram_ages cells clock [] = []
ram_ages cells clock (i ∷ is) = ram_age cells clock i ∷ ram_ages (ram_cells cells clock i) (suc clock) is

-- all ages looked up in the end, the last one first
unfoldable pub ram_final_ages : List Cell → ℕ → List ℕ → List Input → List ℕ
ram_final_ages cells clock ages [] = ages
ram_final_ages cells clock ages (i ∷ is) = ram_final_ages (ram_cells cells clock i) (suc clock) (ram_age cells clock i ∷ ages) is

-- the honest rows are the operations, the end rows and the range rows
ram_split : (cells : List Cell) (clock : ℕ) (ages : List ℕ) (t : ℕ) (is : List Input)
    → ram_from cells clock ages t is ≡ ram_ops cells clock ages is ++ (ram_ends (ram_final_cells cells clock is) ++ range_rows_from 1 t (ram_final_ages cells clock ages is))
unfolding ram_from ram_ops ram_final_cells ram_final_ages
ram_split cells clock ages t [] = refl
ram_split cells clock ages t (i ∷ is) = ap {B = List Row} (λ l. ram_row cells clock ages i ∷ l) (ram_split (ram_cells cells clock i) (suc clock) (ram_age cells clock i ∷ ages) t is)

-- the operation rows are filled from the inputs
pub ram_inputs : (cells : List Cell) (clock : ℕ) (ages : List ℕ) (is : List Input) → map input_of (ram_ops cells clock ages is) ≡ is
unfolding ram_ops ram_row filled_row input_of
ram_inputs cells clock ages [] = refl
ram_inputs cells clock ages (i ∷ is) = ap {B = List Input} (λ l. i ∷ l) (ram_inputs (ram_cells cells clock i) _ _ is)

-- how many they are
ops_length : (cells : List Cell) (clock : ℕ) (ages : List ℕ) (is : List Input) → length (ram_ops cells clock ages is) ≡ length is
unfolding ram_ops
ops_length cells clock ages [] = refl
ops_length cells clock ages (i ∷ is) = ap suc (ops_length (ram_cells cells clock i) (suc clock) (ram_age cells clock i ∷ ages) is)

cells_length : (cells : List Cell) (clock : ℕ) (i : Input) → length (ram_cells cells clock i) ≡ length cells
unfolding ram_cells
cells_length cells clock i = length-set cells i.addr _

final_cells_length : (cells : List Cell) (clock : ℕ) (is : List Input) → length (ram_final_cells cells clock is) ≡ length cells
unfolding ram_final_cells
final_cells_length cells clock [] = refl
final_cells_length cells clock (i ∷ is) = final_cells_length (ram_cells cells clock i) (suc clock) is ∙ cells_length cells clock i

ends_length : (cells : List Cell) (clock : ℕ) (is : List Input) → length (ram_ends (ram_final_cells cells clock is)) ≡ length cells
unfolding ram_ends
ends_length cells clock is = length-map (ram_final_cells cells clock is) (λ (c : Cell). end_row no_content c.content c.time 0) ∙ final_cells_length cells clock is

pub ranges_length : (i t : ℕ) (ages : List ℕ) → length (range_rows_from i t ages) ≡ t
unfolding range_rows_from
ranges_length i zero ages = refl
ranges_length i (suc t) ages = ap suc (ranges_length (suc i) t ages)

-- every address is below n
abbrev pub Within : ℕ → List Input → Type 0
Within n [] = Unit {0}
Within n (i ∷ is) = (i.addr < n) × Within n is

-- a store or load is possible where its address is below the number of cells
below_tested : (b : Bool) → eqb (cond b 0 11) 0 ≡ b
below_tested true = refl
below_tested false = refl

impossible_at : (b : Bool) (content : List Content) (a : ℕ) (v o : Content) → eqb (impossible content (cond b (store a v) (load a v o))) 0 ≡ ltb a (length content)
unfolding impossible
impossible_at true content a v o = below_tested (ltb a (length content))
impossible_at false content a v o = below_tested (ltb a (length content))

input_possible : (content : List Content) (i : Input) → eqb (impossible content (input_operation Ram i)) 0 ≡ ltb i.addr (length content)
unfolding input_operation operation_of bare filled_row
input_possible content i = impossible_at (eqb i.guard 1) content i.addr i.value no_content

input_length : (content : List Content) (i : Input) → length (after content (input_operation Ram i)) ≡ length content
unfolding input_operation
input_length content i = access_length content (bare i)

-- where every access is possible, the addresses are below the number of cells, and the other way round
possible_within : (content : List Content) (is : List Input) → possible Ram content is ≡ true → Within (length content) is
unfolding possible
possible_within content [] e = tt
possible_within content (i ∷ is) e =
    let both = (and-eq-true_iff (eqb (impossible content (input_operation Ram i)) 0) (possible Ram (after content (input_operation Ram i)) is)).0 e in (
      ltb-true i.addr (length content) (sym (input_possible content i) ∙ both.0),
      subst (λ (n : ℕ). Within n is) (input_length content i) (possible_within (after content (input_operation Ram i)) is both.1),
    )

pub within_possible : (content : List Content) (is : List Input) → Within (length content) is → possible Ram content is ≡ true
unfolding possible
within_possible content [] w = refl
within_possible content (i ∷ is) w =
    (and-eq-true_iff (eqb (impossible content (input_operation Ram i)) 0) (possible Ram (after content (input_operation Ram i)) is)).1 (
      input_possible content i ∙ lt-ltb i.addr (length content) w.0,
      within_possible (after content (input_operation Ram i)) is (subst (λ (n : ℕ). Within n is) (sym (input_length content i)) w.1),
    )

-- an honest access reads its cell, and leaves the cells as an access does
pub honest_reads : (cells : List Cell) (clock : ℕ) (ages : List ℕ) (i : Input) → i.addr < length cells → Reads cells (ram_row cells clock ages i)
unfolding ram_row filled_row
honest_reads cells clock ages i h = (h, refl, refl)

pub honest_accessed : (cells : List Cell) (clock : ℕ) (ages : List ℕ) (i : Input) → accessed cells clock (ram_row cells clock ages i) ≡ ram_cells cells clock i
unfolding ram_row filled_row accessed new_of ram_cells
honest_accessed cells clock ages i = refl

within_cells : (cells : List Cell) (clock : ℕ) (i : Input) (is : List Input) → Within (length cells) is → Within (length (ram_cells cells clock i)) is
within_cells cells clock i is w = subst (λ (n : ℕ). Within n is) (sym (cells_length cells clock i)) w

-- the end rows hold the records of the cells
end_records : (i : ℕ) (cells : List Cell) → cell_ends i (ram_ends cells) ≡ cell_records i cells
unfolding cell_ends ram_ends end_row cell_records cell_record
end_records i [] = refl
end_records i (c ∷ cells) = ap {B = List Triple} (λ l. triple i c.content c.time ∷ l) (end_records (suc i) cells)

-- the cells and the honest writes from a clock on hold the same records as the honest reads and the cells in the end
honest_balanced : (cells : List Cell) (clock : ℕ) (ages : List ℕ) (is : List Input) → Within (length cells) is
    → Balanced cells clock (ram_ops cells clock ages is) (cell_records 0 (ram_final_cells cells clock is))
unfolding ram_ops ram_final_cells total access_writes
honest_balanced cells clock ages [] w weight = omega arith
honest_balanced cells clock ages (i ∷ is) w weight =
    omega (
      arith,
      honest_balanced (ram_cells cells clock i) (suc clock) (ram_age cells clock i ∷ ages) is (within_cells cells clock i is w.1) weight,
      access_exchange weight clock cells (ram_row cells clock ages i) (honest_reads cells clock ages i w.0),
      ap (λ (cs : List Cell). total weight (cell_records 0 cs)) (honest_accessed cells clock ages i),
    )

before_at : (clock : ℕ) (cells : List Cell) (k : ℕ) → 1 ≤ clock → Before clock cells → (cell_at cells k).time < clock
unfolding cell_at cell
before_at clock [] k started b = started
before_at clock (c ∷ cells) zero started b = b.0
before_at clock (c ∷ cells) (suc k) started b = before_at clock cells k started b.1

before_set : (clock : ℕ) (cells : List Cell) (k : ℕ) (v : Content) → Before clock cells → Before (suc clock) (set cells k (cell v clock))
unfolding cell
before_set clock [] k v b = tt
before_set clock (c ∷ cells) zero v b = (omega arith, before_later clock (suc clock) cells (omega arith) b.1)
before_set clock (c ∷ cells) (suc k) v b = (omega (arith, b.0), before_set clock cells k v b.1)

before_access : (clock : ℕ) (cells : List Cell) (i : Input) → Before clock cells → Before (suc clock) (ram_cells cells clock i)
unfolding ram_cells
before_access clock cells i b = before_set clock cells i.addr (cond (eqb i.guard 1) i.value (cell_at cells i.addr).content) b

before_start : (values : List Content) → Before 1 (start_cells values)
unfolding cell
before_start [] = tt
before_start (v ∷ values) = (omega arith, before_start values)

-- an honest access looks up clock − time, which does not wrap
honest_age : (q : ℕ) (cells : List Cell) (clock : ℕ) (ages : List ℕ) (i : Input) → 1 ≤ clock → clock < q → Before clock cells
    → minus q clock (ram_row cells clock ages i).time ≡ ram_age cells clock i
unfolding ram_row filled_row ram_age
honest_age q cells clock ages i started below b = age_of_earlier q clock (cell_at cells i.addr).time (before_at clock cells i.addr started b) below

-- the ages of the honest accesses are numbers from 1 to t
honest_ages_in : (t : ℕ) (cells : List Cell) (clock : ℕ) (is : List Input) → 1 ≤ clock → clock + length is ≤ suc t → Before clock cells → AgesIn t (ram_ages cells clock is)
unfolding ram_ages ram_age
honest_ages_in t cells clock [] started left b = tt
honest_ages_in t cells clock (i ∷ is) started left b =
    let earlier = before_at clock cells i.addr started b in
    ((omega (arith, earlier), omega arith), honest_ages_in t (ram_cells cells clock i) (suc clock) is (omega arith) (omega arith) (before_access clock cells i b))

honest_ages_length : (cells : List Cell) (clock : ℕ) (is : List Input) → length (ram_ages cells clock is) ≡ length is
unfolding ram_ages
honest_ages_length cells clock [] = refl
honest_ages_length cells clock (i ∷ is) = ap suc (honest_ages_length (ram_cells cells clock i) (suc clock) is)

-- the ages looked up in the end are those looked up before, and these
honest_final_ages : (cells : List Cell) (clock : ℕ) (ages : List ℕ) (is : List Input) → ram_final_ages cells clock ages is ≡ ages_after ages (ram_ages cells clock is)
unfolding ram_ages ram_final_ages ages_after keys_after
honest_final_ages cells clock ages [] = refl
honest_final_ages cells clock ages (i ∷ is) = honest_final_ages (ram_cells cells clock i) (suc clock) (ram_age cells clock i ∷ ages) is

-- the lookups of the honest rows are those of an honest prover with these ages
honest_ram_lookups : (q : ℕ) (cells : List Cell) (clock : ℕ) (ages : List ℕ) (is : List Input) → 1 ≤ clock → clock + length is ≤ q → Before clock cells
    → access_lookups q clock (ram_ops cells clock ages is) ≡ honest_lookups ages (ram_ages cells clock is)
unfolding access_lookups ram_ops ram_ages honest_lookups honest
honest_ram_lookups q cells clock ages [] started left b = refl
honest_ram_lookups q cells clock ages (i ∷ is) started left b =
    ap₂ {C = List Lookup} (λ l ls. l ∷ ls) (unfold ram_row filled_row in ap (λ (a : ℕ). record { age = a; version = occurrences (ram_age cells clock i) ages }) (honest_age q cells clock ages i started (omega arith) b))
    (honest_ram_lookups q (ram_cells cells clock i) (suc clock) (ram_age cells clock i ∷ ages) is (omega arith) (omega arith) (before_access clock cells i b))

-- the honest rows of a ram, by its init values and operations
abbrev pub ram_op_rows : List Content → List Input → List Row
ram_op_rows values is = ram_ops (start_cells values) 1 [] is

abbrev pub ram_end_rows : List Content → List Input → List Row
ram_end_rows values is = ram_ends (ram_final_cells (start_cells values) 1 is)

abbrev pub ram_range_rows : ℕ → List Content → List Input → List Row
ram_range_rows t values is = range_rows_from 1 t (ram_final_ages (start_cells values) 1 [] is)

-- what the filler writes after the init rows: they, in this order
pub ram_rows : (t : ℕ) (values : List Content) (ops : List Input)
    → operations_filled Ram t values ops ≡ ram_op_rows values ops ++ (ram_end_rows values ops ++ ram_range_rows t values ops)
unfolding operations_filled
ram_rows t values ops = ram_split (start_cells values) 1 [] t ops

-- how many they are: one for each operation, one for each init value, t
pub ram_op_rows_length : (values : List Content) (ops : List Input) → length (ram_op_rows values ops) ≡ length ops
ram_op_rows_length values ops = ops_length (start_cells values) 1 [] ops

pub ram_end_rows_length : (values : List Content) (ops : List Input) → length (ram_end_rows values ops) ≡ length values
ram_end_rows_length values ops = ends_length (start_cells values) 1 ops ∙ length-map values (λ v. cell v 0)

-- possible accesses have addresses of the cells at the start
start_within : (values : List Content) (is : List Input) → possible Ram values is ≡ true → Within (length (start_cells values)) is
start_within values is e = subst (λ (n : ℕ). Within n is) (sym (length-map values (λ v. cell v 0))) (possible_within values is e)

-- the init rows keep their values
bare_values : (inits : List Input) → map (λ row. row.value) (map bare inits) ≡ map (λ i. i.value) inits
unfolding bare filled_row
bare_values [] = refl
bare_values (i ∷ is) = ap {B = List Content} (λ l. i.value ∷ l) (bare_values is)

-- the memory's shuffle: the records written are the records read and ended
pub ram_complete : (inits ops : List Input) → possible Ram (map (λ i. i.value) inits) ops ≡ true
    → EquallyOften (init_writes 0 (map bare inits) ++ access_writes 1 (ram_op_rows (map (λ i. i.value) inits) ops))
    (map access_read (ram_op_rows (map (λ i. i.value) inits) ops) ++ cell_ends 0 (ram_end_rows (map (λ i. i.value) inits) ops))
ram_complete inits ops e weight =
    omega (
      arith,
      total_append weight (init_writes 0 (map bare inits)) (access_writes 1 rows),
      total_append weight (map access_read rows) (cell_ends 0 (ram_end_rows values ops)),
      honest_balanced (start_cells values) 1 [] ops (start_within values ops e) weight,
      ap (total weight) starting,
      ap (total weight) (end_records 0 (ram_final_cells (start_cells values) 1 ops)),
    )
  where
    values : List Content
    values = map (λ i. i.value) inits

    rows : List Row
    rows = ram_op_rows values ops

    starting : init_writes 0 (map bare inits) ≡ cell_records 0 (start_cells values)
    starting = start_records 0 (map bare inits) ∙ ap (λ (vs : List Content). cell_records 0 (start_cells vs)) (bare_values inits)

-- the lookups of the honest rows, by the ages clock − time
pub ram_lookups : (q : ℕ) (values : List Content) (ops : List Input) → length ops < q → access_lookups q 1 (ram_op_rows values ops) ≡ honest_lookups [] (ram_ages (start_cells values) 1 ops)
ram_lookups q values ops below = honest_ram_lookups q (start_cells values) 1 [] ops (omega arith) (omega arith) (before_start values)

pub ram_ages_in : (t : ℕ) (values : List Content) (ops : List Input) → length ops ≡ t → AgesIn t (ram_ages (start_cells values) 1 ops)
ram_ages_in t values ops count = honest_ages_in t (start_cells values) 1 ops (omega arith) (omega arith) (before_start values)

-- the range's shuffle: the pairs supplied are the pairs looked up and ended
pub ram_range_complete : (q t : ℕ) (values : List Content) (ops : List Input) → length ops ≡ t → t < q
    → EquallyOften (range_setup 1 t ++ map (range_write q) (access_lookups q 1 (ram_op_rows values ops)))
    (map range_read (access_lookups q 1 (ram_op_rows values ops)) ++ range_ends 1 (ram_range_rows t values ops))
ram_range_complete q t values ops count below =
    rw (ram_lookups q values ops (omega arith), honest_final_ages (start_cells values) 1 [] ops)
    (range_complete q t (ram_ages (start_cells values) 1 ops) (ram_ages_in t values ops count) (omega (arith, honest_ages_length (start_cells values) 1 ops)))
