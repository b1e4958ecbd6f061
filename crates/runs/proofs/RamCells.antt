-- The cells of a ram: the records that hold them, what one access changes of their sum under a weight, and that an access which reads its cell fits the
-- plain memory and leaves it the contents of the cells after it.
-- Assumes nothing.
use Prim.Native.Nat.{ℕ, zero, suc, ◌+◌, ◌<◌}
use mathlib.Core.Path.{◌≡◌, refl, sym, ◌∙◌, ap, ap₂}
use mathlib.Core.Bool.{Bool, true, false, cond}
use mathlib.Core.List.{List, [], ◌∷◌, map}
use native.Mathlib.Omega.{arith}
use lib.Dec.{eqb}
use lib.ListN.{length, get_or, set, length-set, length-map, get_or-map}
use borrow.Author.Tests.{lt-ltb}
use Rattle.algebra.specs.Multiset.{total}
use Rattle.memory.specs.declared.Memory.TheVariants.{Ram}
use Rattle.memory.specs.declared.Row.{Row}
use Rattle.memory.specs.Content.{Content, no_content}
use Rattle.memory.specs.Equations.{Triple, triple, init_writes, access_read, new_of, access_writes}
use Rattle.memory.proofs.Content.{content_same}
use Rattle.runs.specs.Plain.{store, load, fits, after, operation_of}
use Rattle.runs.specs.Honest.{Cell, cell, cell_at}

-- the contents of the cells: what the plain memory holds
abbrev pub contents : List Cell → List Content
contents cells = map (λ c. c.content) cells

-- the record of a cell at an address, and of the cells at the addresses from i on
unfoldable pub cell_record : ℕ → Cell → Triple
cell_record i c = triple i c.content c.time

unfoldable pub cell_records : ℕ → List Cell → List Triple
cell_records i [] = []
cell_records i (c ∷ cells) = cell_record i c ∷ cell_records (suc i) cells

-- the cells at the start, by the init values
abbrev pub start_cells : List Content → List Cell
start_cells values = map (λ v. cell v 0) values

pub start_contents : (values : List Content) → contents (start_cells values) ≡ values
unfolding cell
start_contents [] = refl
start_contents (v ∷ values) = ap {B = List Content} (λ l. v ∷ l) (start_contents values)

-- the init rows write their records
pub start_records : (i : ℕ) (inits : List Row) → init_writes i inits ≡ cell_records i (start_cells (map (λ row. row.value) inits))
unfolding init_writes cell_records cell_record cell
start_records i [] = refl
start_records i (row ∷ rows) = ap {B = List Triple} (λ l. triple i row.value 0 ∷ l) (start_records (suc i) rows)

-- a replaced cell exchanges its record for the other
total_set : (weight : Triple → ℕ) (i k j : ℕ) (cells : List Cell) (c : Cell) → j ≡ i + k → k < length cells
    → total weight (cell_records i (set cells k c)) + weight (cell_record j (cell_at cells k)) ≡ total weight (cell_records i cells) + weight (cell_record j c)
unfolding total cell_records cell_at
total_set weight i k j [] c e h = absurd (omega arith)
total_set weight i zero j (d ∷ cells) c e h =
    let same : j ≡ i = omega arith in
    omega (arith, ap (λ (x : ℕ). weight (cell_record x c)) same, ap (λ (x : ℕ). weight (cell_record x d)) same)
total_set weight i (suc k) j (d ∷ cells) c e h =
    omega (arith, total_set weight (suc i) k j cells c (omega arith) (omega arith))

-- the contents where one cell is replaced
contents_set : (cells : List Cell) (k : ℕ) (c : Cell) → contents (set cells k c) ≡ set (contents cells) k c.content
contents_set [] k c = refl
contents_set (d ∷ cells) zero c = refl
contents_set (d ∷ cells) (suc k) c = ap {B = List Content} (λ l. d.content ∷ l) (contents_set cells k c)

-- the content of a cell
pub contents_at : (cells : List Cell) (k : ℕ) → get_or (contents cells) k no_content ≡ (cell_at cells k).content
unfolding cell_at cell
contents_at cells k = get_or-map (λ (c : Cell). c.content) cells k (cell no_content 0)

-- a list in which an entry is replaced by itself
set_same : (xs : List Content) (k : ℕ) (d : Content) → set xs k (get_or xs k d) ≡ xs
set_same [] k d = refl
set_same (x ∷ xs) zero d = refl
set_same (x ∷ xs) (suc k) d = ap {B = List Content} (λ l. x ∷ l) (set_same xs k d)

-- a store or load at an address of the content, whose old is what stands there, fits
fits_at : (b : Bool) (content : List Content) (a : ℕ) (v o : Content) → a < length content → get_or content a no_content ≡ o → fits content (cond b (store a v) (load a v o)) ≡ true
unfolding fits
fits_at true content a v o h e = simp (lt-ltb a (length content) h)
fits_at false content a v o h e = rw (lt-ltb a (length content) h) (content_same o (get_or content a no_content) (sym e))

-- after it the stored value stands there, or what stood there
after_at : (b : Bool) (content : List Content) (a : ℕ) (v o : Content) → get_or content a no_content ≡ o → after content (cond b (store a v) (load a v o)) ≡ set content a (cond b v o)
unfolding after
after_at true content a v o e = refl
after_at false content a v o e = sym (ap (set content a) (sym e) ∙ set_same content a no_content)

-- an access leaves as many cells
length_at : (b : Bool) (content : List Content) (a : ℕ) (v o : Content) → length (after content (cond b (store a v) (load a v o))) ≡ length content
unfolding after
length_at true content a v o = length-set content a v
length_at false content a v o = refl

pub access_length : (content : List Content) (row : Row) → length (after content (operation_of Ram row)) ≡ length content
unfolding operation_of
access_length content row = length_at (eqb row.guard 1) content row.addr row.value row.old

-- a row reads a cell: its address is one of the cells', its old and time are that cell's
abbrev pub Reads : List Cell → Row → Type 0
Reads cells row = (row.addr < length cells) × ((cell_at cells row.addr).content ≡ row.old) × ((cell_at cells row.addr).time ≡ row.time)

-- the cells after an access at a clock
unfoldable pub accessed : List Cell → ℕ → Row → List Cell
accessed cells clock row = set cells row.addr (cell (new_of row) clock)

-- an access exchanges the record that it reads for the record that it writes
pub access_exchange : (weight : Triple → ℕ) (clock : ℕ) (cells : List Cell) (row : Row) → Reads cells row
    → total weight (cell_records 0 (accessed cells clock row)) + weight (access_read row) ≡ total weight (cell_records 0 cells) + weight (triple row.addr (new_of row) clock)
unfolding accessed
access_exchange weight clock cells row reads = omega (arith, replaced, taken, put)
  where
    replaced : total weight (cell_records 0 (set cells row.addr (cell (new_of row) clock))) + weight (cell_record row.addr (cell_at cells row.addr))
        ≡ total weight (cell_records 0 cells) + weight (cell_record row.addr (cell (new_of row) clock))
    replaced = total_set weight 0 row.addr row.addr cells (cell (new_of row) clock) (omega arith) reads.0

    taken : weight (cell_record row.addr (cell_at cells row.addr)) ≡ weight (access_read row)
    taken = unfold cell_record access_read in ap₂ (λ (y : Content) (z : ℕ). weight (triple row.addr y z)) reads.1 reads.2

    put : weight (cell_record row.addr (cell (new_of row) clock)) ≡ weight (triple row.addr (new_of row) clock)
    put = unfold cell_record cell in refl

-- an access that reads its cell fits, and leaves the contents of the cells after it
pub access_fits : (cells : List Cell) (row : Row) → Reads cells row → fits (contents cells) (operation_of Ram row) ≡ true
unfolding operation_of
access_fits cells row reads =
    fits_at (eqb row.guard 1) (contents cells) row.addr row.value row.old (omega (arith, reads.0, length-map cells (λ (c : Cell). c.content)))
    (contents_at cells row.addr ∙ reads.1)

pub access_after : (clock : ℕ) (cells : List Cell) (row : Row) → Reads cells row → after (contents cells) (operation_of Ram row) ≡ contents (accessed cells clock row)
unfolding operation_of accessed new_of cell
access_after clock cells row reads =
    after_at (eqb row.guard 1) (contents cells) row.addr row.value row.old (contents_at cells row.addr ∙ reads.1)
    ∙ sym (contents_set cells row.addr (cell (new_of row) clock))

-- the cells and the writes from a clock on hold the same records as the reads and the ends
abbrev pub Balanced : List Cell → ℕ → List Row → List Triple → Type 0
Balanced cells clock ops ends =
    (weight : Triple → ℕ) → total weight (cell_records 0 cells) + total weight (access_writes clock ops) ≡ total weight (map access_read ops) + total weight ends
