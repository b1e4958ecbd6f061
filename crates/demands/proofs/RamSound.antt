-- The ram of document 01, from equal lists to a right trace: where the ages lie in the range, and the records written are the records read and ended,
-- every access fits. The records at the end are arbitrary.
-- The induction goes over the accesses, with the live cells: these and the writes still to come hold the same records as the reads still to come
-- and the ends. The record read has a time that no write to come has, so it is that of a live cell.
-- Assumes nothing.
use Prim.Native.Nat.{ℕ, suc, ◌+◌, ◌*◌, ◌≤◌, ◌<◌}
use mathlib.Core.Path.{◌≡◌, refl, sym, ap, subst}
use mathlib.Core.Logic.{◌⊎◌, inl, inr}
use mathlib.Core.Bool.{true}
use mathlib.Core.List.{List, [], ◌∷◌, ◌++◌, map}
use native.Mathlib.Nat.{eq-zero-or-pos}
use native.Mathlib.Omega.{arith}
use lib.ListN.{length}
use Rattle.algebra.specs.Modulo.{minus}
use Rattle.algebra.specs.Multiset.{total, EquallyOften}
use Rattle.algebra.proofs.Multiset.{total_append}
use Rattle.memory.specs.declared.Memory.TheVariants.{Ram}
use Rattle.memory.specs.declared.Row.{Row}
use Rattle.memory.specs.Equations.{Triple, triple, init_writes, access_read, new_of, access_writes, access_lookups}
use Rattle.runs.specs.Plain.{all_fit, operation_of}
use Rattle.runs.specs.Honest.{Cell, cell_at}
use Rattle.runs.proofs.Ages.{InRange}
use Rattle.runs.proofs.Clock.{age_of_later}
use Rattle.demands.proofs.Records.{is_record, record_itself, counted_parts, not_counted}
use Rattle.runs.proofs.RamCells.{contents, cell_record, cell_records, start_cells, start_contents, start_records, Reads, accessed, access_exchange, access_fits, access_after, Balanced}

-- a record whose time none of the writes to come has does not occur in them
later_writes_apart : (r : Triple) (clock : ℕ) (ops : List Row) → (clock ≤ r.z → r.z < clock + length ops → ⊥)
    → total (is_record r) (access_writes clock ops) ≡ 0
unfolding total access_writes triple
later_writes_apart r clock [] apart = refl
later_writes_apart r clock (row ∷ rows) apart =
    omega (
      arith,
      not_counted r (triple row.addr (new_of row) clock) (λ parts. apart (omega (arith, parts.2)) (omega (arith, parts.2))),
      later_writes_apart r (suc clock) rows (λ low high. apart (omega arith) (omega arith)),
    )

-- a record is that of one of the cells, which stand at the addresses from i on
abbrev Living : Triple → ℕ → List Cell → Type 0
Living r i cells = (k : ℕ) × (r.x ≡ i + k) × (k < length cells) × ((cell_at cells k).content ≡ r.y) × ((cell_at cells k).time ≡ r.z)

-- a record that occurs among those of the cells is the record of one of them
cell_of_record : (r : Triple) (i : ℕ) (cells : List Cell) → 0 < total (is_record r) (cell_records i cells) → Living r i cells
unfolding total cell_records cell_record triple cell_at
cell_of_record r i [] h = absurd (omega arith)
cell_of_record r i (c ∷ cells) h = go (eq-zero-or-pos (is_record r (cell_record i c))) (cell_of_record r (suc i) cells)
  where
    go : (is_record r (cell_record i c) ≡ 0) ⊎ (0 < is_record r (cell_record i c)) → (0 < total (is_record r) (cell_records (suc i) cells) → Living r (suc i) cells) → Living r i (c ∷ cells)
    go (inl e) rest = let l = rest (omega arith) in (suc l.0, omega (arith, l.1), omega (arith, l.2), l.3, l.4)
    go (inr one) rest =
        let parts = counted_parts r (cell_record i c) one in
        (0, omega (arith, parts.0), omega arith, sym parts.1, sym parts.2)

-- the record that an access reads is that of a live cell
access_reads : (q t clock : ℕ) (cells : List Cell) (row : Row) (rows : List Row) (ends : List Triple) → 2 * t ≤ q → 1 ≤ clock → clock + length (row ∷ rows) ≡ suc t
    → 1 ≤ minus q clock row.time → minus q clock row.time ≤ t → Balanced cells clock (row ∷ rows) ends → Reads cells row
unfolding total access_read triple
access_reads q t clock cells row rows ends bound started left low high same = at living
  where
    apart : total (is_record (access_read row)) (access_writes clock (row ∷ rows)) ≡ 0
    apart = later_writes_apart (access_read row) clock (row ∷ rows) (λ later due. age_of_later q t clock row.time bound started later (omega arith) low high)

    living : Living (access_read row) 0 cells
    living = cell_of_record (access_read row) 0 cells (omega (arith, same (is_record (access_read row)), apart, record_itself (access_read row)))

    at : Living (access_read row) 0 cells → Reads cells row
    at l =
        let place : l.0 ≡ row.addr = omega (arith, l.1) in
        subst (λ (k : ℕ). (k < length cells) × ((cell_at cells k).content ≡ row.old) × ((cell_at cells k).time ≡ row.time)) place (l.2, l.3, l.4)

-- an access to a live cell keeps the balance
access_balanced : (clock : ℕ) (cells : List Cell) (row : Row) (rows : List Row) (ends : List Triple) → Reads cells row
    → Balanced cells clock (row ∷ rows) ends → Balanced (accessed cells clock row) (suc clock) rows ends
unfolding total access_writes
access_balanced clock cells row rows ends reads same weight = omega (arith, same weight, access_exchange weight clock cells row reads)

-- the accesses from a clock on fit the contents of the live cells
ram_sound_from : (q t clock : ℕ) (cells : List Cell) (ops : List Row) (ends : List Triple) → 2 * t ≤ q → 1 ≤ clock → clock + length ops ≡ suc t
    → InRange t (access_lookups q clock ops) → Balanced cells clock ops ends → all_fit (contents cells) (map (operation_of Ram) ops) ≡ true
unfolding all_fit access_lookups
ram_sound_from q t clock cells [] ends bound started left ages same = refl
ram_sound_from q t clock cells (row ∷ rows) ends bound started left ages same =
    let reads = access_reads q t clock cells row rows ends bound started left ages.0 ages.1 same in
    rw (access_fits cells row reads, access_after clock cells row reads)
    (ram_sound_from q t (suc clock) (accessed cells clock row) rows ends bound (omega arith) (omega arith) ages.2 (access_balanced clock cells row rows ends reads same))

-- where the ages lie in the range, and the records written are those read and ended, the trace is right
pub ram_sound : (q t : ℕ) (inits ops : List Row) (ends : List Triple) → 2 * t ≤ q → length ops ≡ t
    → InRange t (access_lookups q 1 ops) → EquallyOften (init_writes 0 inits ++ access_writes 1 ops) (map access_read ops ++ ends)
    → all_fit (map (λ row. row.value) inits) (map (operation_of Ram) ops) ≡ true
ram_sound q t inits ops ends bound count ages same =
    rw (start_contents (map (λ row. row.value) inits)) at
    (ram_sound_from q t 1 (start_cells (map (λ row. row.value) inits)) ops ends bound (omega arith) (omega arith) ages balanced)
  where
    balanced : Balanced (start_cells (map (λ row. row.value) inits)) 1 ops ends
    balanced weight =
        omega (arith, same weight, total_append weight (init_writes 0 inits) (access_writes 1 ops), total_append weight (map access_read ops) ends, ap (total weight) (start_records 0 inits))
