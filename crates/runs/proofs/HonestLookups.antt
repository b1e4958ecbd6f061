-- The honest prover's lookups (rom, set, range): the version of a lookup is the number of earlier lookups of its key, the version of an end row the
-- number of all. Shown: the records written and read hold the same records equally often, the rows fall apart into operations and end rows, and the
-- honest operation rows have a right trace; and a right trace is one that the honest prover fills, with the same trace.
-- Assumes nothing.
use Prim.Native.Nat.{ℕ, zero, suc, ◌+◌, ◌≤◌, ◌<◌}
use native.Mathlib.Nat.{mod-eq_of_lt}
use native.Mathlib.Omega.{arith}
use mathlib.Core.Path.{◌≡◌, refl, sym, ◌∙◌, ap, ap₂}
use mathlib.Core.Bool.{Bool, true, false, ◌&&◌, ◌||◌, cond, false≢true, or-true}
use mathlib.Core.List.{List, [], ◌∷◌, ◌++◌, map}
use lib.Dec.{eqb, ltb}
use lib.ListN.{length, get_or}
use borrow.Author.Tests.{eqb-true, eqb-false, eq-eqb, ne_eqb, ltb-true}
use Rattle.algebra.specs.Modulo.{plus}
use Rattle.algebra.specs.Multiset.{total, EquallyOften}
use Rattle.algebra.proofs.Multiset.{total_append}
use Rattle.memory.specs.declared.Memory.TheVariants.{Rom, Set}
use Rattle.memory.specs.declared.Row.{Row}
use Rattle.memory.specs.Content.{Content, no_content, same_content, number_of}
use Rattle.memory.specs.Equations.{Triple, triple, pair, Lookup, init_writes, look_read, look_write, rom_ends, set_init, member_read, member_write, range_setup, range_read, range_write, range_ends}
use Rattle.memory.proofs.Content.{same_content_lem}
use Rattle.runs.specs.Plain.{Operation, among, fits, after, all_fit, operation_of, look, member}
use Rattle.runs.specs.Honest.{Input, input_of, filled_row, bare, end_row, range_row, occurrences, range_rows_from, rom_ends_from, rom_from, set_ends_from, set_from, impossible, input_operation, possible}
use Rattle.runs.proofs.Lookups.{both_true}

-- every entry of a list has the property P
abbrev pub All : {A : Type 0} → (A → Type 0) → List A → Type 0
All P [] = Unit {0}
All P (x ∷ xs) = P x × All P xs

-- a key occurs once more with itself in front, and as often with another in front
occurs_same : (x : ℕ) (ys : List ℕ) → occurrences x (x ∷ ys) ≡ occurrences x ys + 1
unfolding occurrences
occurs_same x ys = omega (arith, ap {B = ℕ} (λ b. cond b 1 0) (eq-eqb x x refl))

occurs_other : (x y : ℕ) (ys : List ℕ) → eqb x y ≡ false → occurrences x (y ∷ ys) ≡ occurrences x ys
unfolding occurrences
occurs_other x y ys e = omega (arith, ap {B = ℕ} (λ b. cond b 1 0) e)

-- a key occurs no more often than there are keys
pub occurs_at_most : (x : ℕ) (ys : List ℕ) → occurrences x ys ≤ length ys
unfolding occurrences
occurs_at_most x [] = omega arith
occurs_at_most x (y ∷ ys) = omega (arith, at_most_one (eqb x y), occurs_at_most x ys)
  where
    at_most_one : (b : Bool) → cond b 1 0 ≤ 1
    at_most_one true = omega arith
    at_most_one false = omega arith

-- fewer than q lookups: the version does not wrap
version_below : (q x : ℕ) (keys : List ℕ) → length keys + 1 < q → plus q (occurrences x keys) 1 ≡ occurrences x keys + 1
unfolding plus
version_below q x keys few = mod-eq_of_lt (omega (arith, few, occurs_at_most x keys))

-- A further lookup of the key a, after those of `keys`, exchanges one of the end records, in its state at the key's version, for its state at the next version.
abbrev Raises : {R : Type 0} → (List ℕ → List R) → (ℕ → R) → ℕ → List ℕ → Type 0
Raises {R} ends state a keys =
    (weight : R → ℕ) → total weight (ends (a ∷ keys)) + weight (state (occurrences a keys)) ≡ total weight (ends keys) + weight (state (occurrences a keys + 1))

-- Inputs with a key.
module _ {I : Type 0} (key : I → ℕ) where
  -- the keys after further inputs, the last one first
  unfoldable pub keys_after : List ℕ → List I → List ℕ
  keys_after keys [] = keys
  keys_after keys (i ∷ is) = keys_after (key i ∷ keys) is

  -- Lookups made of an input and a version.
  module _ {L : Type 0} (make : I → ℕ → L) where
    -- "version is the number of earlier lookups of the same key": the lookups after those of `keys`
    unfoldable pub honest : List ℕ → List I → List L
    honest keys [] = []
    honest keys (i ∷ is) = make i (occurrences (key i) keys) ∷ honest (key i ∷ keys) is

    -- one lookup for each input
    length_honest : (keys : List ℕ) (is : List I) → length (honest keys is) ≡ length is
    unfolding honest
    length_honest keys [] = refl
    length_honest keys (i ∷ is) = ap suc (length_honest (key i ∷ keys) is)

    -- Each lookup writes what it would read one version later, and raises a version among the end records.
    module _ {R : Type 0} (read write : L → R) (q : ℕ) (next : (i : I) (v : ℕ) → write (make i v) ≡ read (make i (plus q v 1))) (ends : List ℕ → List R) (Good : I → Type 0) (raises : (i : I) (keys : List ℕ) → Good i → Raises ends (λ v. read (make i v)) (key i) keys) where
      -- the end records and the records still to be written are the records still to be read and the end records at the end
      honest_sums : (keys : List ℕ) (is : List I) → length keys + length is < q → All Good is → (weight : R → ℕ) → total weight (ends keys) + total weight (map write (honest keys is)) ≡ total weight (map read (honest keys is)) + total weight (ends (keys_after keys is))
      unfolding total honest keys_after
      honest_sums keys [] few good weight = omega arith
      honest_sums keys (i ∷ is) few good weight =
          let written = next i (occurrences (key i) keys) ∙ ap (λ (v : ℕ). read (make i v)) (version_below q (key i) keys (omega (arith, few))) in
          omega (arith, ap weight written, raises i keys good.0 weight, honest_sums (key i ∷ keys) is (omega (arith, few)) good.1 weight)

      -- so the records written and read balance, where the initial records are the end records before any lookup
      honest_often : (initial final : List R) (is : List I) → initial ≡ ends [] → final ≡ ends (keys_after [] is) → length is < q → All Good is → EquallyOften (initial ++ map write (honest [] is)) (map read (honest [] is) ++ final)
      honest_often initial final is start stop few good weight =
          omega (arith, total_append weight initial (map write (honest [] is)), ap (total weight) start, honest_sums [] is (omega (arith, few)) good weight, ap (total weight) stop, total_append weight (map read (honest [] is)) final)

-- rom and range: the end records of t consecutive keys from i on, the state of each by its key and version
module _ {R : Type 0} (state : ℕ → ℕ → R) where
  ends_from : ℕ → ℕ → List ℕ → List R
  ends_from i zero keys = []
  ends_from i (suc t) keys = state i (occurrences i keys) ∷ ends_from (suc i) t keys

  -- a lookup of a key below them changes none
  ends_below : (a i t : ℕ) (keys : List ℕ) → a < i → ends_from i t (a ∷ keys) ≡ ends_from i t keys
  unfolding ends_from
  ends_below a i zero keys h = refl
  ends_below a i (suc t) keys h =
      ap₂ {C = List R} (λ r rs. r ∷ rs) (ap (state i) (occurs_other i a keys (ne_eqb i a (λ e. omega (arith, e, h))))) (ends_below a (suc i) t keys (omega (arith, h)))

  -- a lookup of one of the keys raises its version
  ends_raised : (a i t : ℕ) (keys : List ℕ) → i ≤ a → a < i + t → Raises (ends_from i t) (state a) a keys
  unfolding total ends_from
  ends_raised a i zero keys low high = absurd (omega (arith, low, high))
  ends_raised a i (suc t) keys low high = go (eqb i a) refl (ends_raised a (suc i) t keys)
    where
      go : (b : Bool) → eqb i a ≡ b → (suc i ≤ a → a < suc i + t → Raises (ends_from (suc i) t) (state a) a keys) → Raises (ends_from i (suc t)) (state a) a keys
      go true e rest weight =
          let here = eqb-true i a e in
          omega (arith, ap (λ (j : ℕ). weight (state j (occurrences j (a ∷ keys)))) here, ap (λ (v : ℕ). weight (state a v)) (occurs_same a keys), ap (λ (j : ℕ). weight (state j (occurrences j keys))) here, ap (total weight) (ends_below a (suc i) t keys (omega (arith, here))))
      go false e rest weight =
          let apart : i ≡ a → ⊥ = eqb-false i a e in
          omega (arith, ap (λ (v : ℕ). weight (state i v)) (occurs_other i a keys e), rest (omega (arith, low, apart)) (omega (arith, high)) weight)

-- range: the lookups of ages, after those of earlier ages
unfoldable pub honest_lookups : List ℕ → List ℕ → List Lookup
honest_lookups = honest (λ a. a) (λ a v. record { age = a; version = v })

-- the ages after further lookups, the last one first
unfoldable pub ages_after : List ℕ → List ℕ → List ℕ
ages_after = keys_after (λ a. a)

-- each age is one of 1 to t
abbrev pub AgesIn : ℕ → List ℕ → Type 0
AgesIn t = All (λ a. (1 ≤ a) × (a ≤ t))

-- the range is set up with its end records before any lookup, and the range rows read its end records
range_setup_lem : (i t : ℕ) → range_setup i t ≡ ends_from pair i t []
unfolding range_setup ends_from occurrences
range_setup_lem i zero = refl
range_setup_lem i (suc t) = ap {B = List Triple} (λ rs. pair i 0 ∷ rs) (range_setup_lem (suc i) t)

range_ends_lem : (i t : ℕ) (ages : List ℕ) → range_ends i (range_rows_from i t ages) ≡ ends_from pair i t ages
unfolding range_ends range_rows_from range_row ends_from
range_ends_lem i zero ages = refl
range_ends_lem i (suc t) ages = ap {B = List Triple} (λ rs. pair i (occurrences i ages) ∷ rs) (range_ends_lem (suc i) t ages)

-- the range of the honest prover balances
pub range_complete : (q t : ℕ) (ages : List ℕ) → AgesIn t ages → length ages < q → EquallyOften (range_setup 1 t ++ map (range_write q) (honest_lookups [] ages)) (map range_read (honest_lookups [] ages) ++ range_ends 1 (range_rows_from 1 t (ages_after [] ages)))
unfolding honest_lookups ages_after range_read range_write
range_complete q t ages good few =
    honest_often (λ a. a) (λ a v. record { age = a; version = v }) range_read (range_write q) q (λ a v. refl) (ends_from pair 1 t) (λ a. (1 ≤ a) × (a ≤ t)) (λ a keys h. ends_raised pair a 1 t keys h.0 (omega (arith, h.1))) (range_setup 1 t) (range_ends 1 (range_rows_from 1 t (ages_after [] ages))) ages (range_setup_lem 1 t) (range_ends_lem 1 t (ages_after [] ages)) few good

-- rom: the operation row of an input at a version
unfoldable pub rom_row : List Content → Input → ℕ → Row
rom_row cells i v = filled_row i (get_or cells i.addr no_content) 0 v

-- the operation rows after looks at the addresses `keys`
unfoldable pub rom_ops : List Content → List ℕ → List Input → List Row
rom_ops cells = honest (λ i. i.addr) (rom_row cells)

-- the end rows after them
unfoldable pub rom_final : List Content → List ℕ → List Input → List Row
rom_final cells keys ops = rom_ends_from 0 cells (keys_after (λ i. i.addr) keys ops)

-- the rows of a rom are its operation rows, then its end rows
pub rom_rows : (cells : List Content) (keys : List ℕ) (ops : List Input) → rom_from cells keys ops ≡ rom_ops cells keys ops ++ rom_final cells keys ops
unfolding rom_from rom_ops rom_final rom_row honest keys_after
rom_rows cells keys [] = refl
rom_rows cells keys (i ∷ ops) = ap {B = List Row} (λ rs. rom_row cells i (occurrences i.addr keys) ∷ rs) (rom_rows cells (i.addr ∷ keys) ops)

-- as many operation rows as operations, as many end rows as cells
pub rom_inputs : (cells : List Content) (keys : List ℕ) (ops : List Input) → map input_of (rom_ops cells keys ops) ≡ ops
unfolding rom_ops rom_row honest filled_row input_of
rom_inputs cells keys [] = refl
rom_inputs cells keys (i ∷ is) = ap {B = List Input} (λ l. i ∷ l) (rom_inputs cells _ is)

pub length_rom_ops : (cells : List Content) (keys : List ℕ) (ops : List Input) → length (rom_ops cells keys ops) ≡ length ops
unfolding rom_ops
length_rom_ops cells keys ops = length_honest (λ i. i.addr) (rom_row cells) keys ops

length_rom_ends_from : (i : ℕ) (cells : List Content) (keys : List ℕ) → length (rom_ends_from i cells keys) ≡ length cells
unfolding rom_ends_from
length_rom_ends_from i [] keys = refl
length_rom_ends_from i (v ∷ cells) keys = ap suc (length_rom_ends_from (suc i) cells keys)

pub length_rom_final : (cells : List Content) (keys : List ℕ) (ops : List Input) → length (rom_final cells keys ops) ≡ length cells
unfolding rom_final
length_rom_final cells keys ops = length_rom_ends_from 0 cells (keys_after (λ i. i.addr) keys ops)

-- an operation is possible if its test passes
no_fault : (fault : ℕ) → eqb fault 0 ≡ false → (b : Bool) → eqb (cond b 0 fault) 0 ≡ b
no_fault fault e true = refl
no_fault fault e false = e

-- a look is possible if its address is inside the rom
look_possible : (cells : List Content) (i : Input) (ops : List Input) → possible Rom cells (i ∷ ops) ≡ (ltb i.addr (length cells) && possible Rom cells ops)
unfolding possible impossible input_operation operation_of after bare filled_row
look_possible cells i ops = ap (λ (b : Bool). b && possible Rom cells ops) (no_fault 11 refl (ltb i.addr (length cells)))

-- the first of some possible looks, and the others
possible_look : (cells : List Content) (i : Input) (ops : List Input) → possible Rom cells (i ∷ ops) ≡ true → (ltb i.addr (length cells) ≡ true) × (possible Rom cells ops ≡ true)
possible_look cells i ops e = both_true (ltb i.addr (length cells)) (possible Rom cells ops) (sym (look_possible cells i ops) ∙ e)

-- the addresses of possible looks are inside the rom
possible_inside : (cells : List Content) (ops : List Input) → possible Rom cells ops ≡ true → All (λ i. i.addr < length cells) ops
possible_inside cells [] e = tt
possible_inside cells (i ∷ ops) e =
    let both = possible_look cells i ops e in
    (ltb-true i.addr (length cells) both.0, possible_inside cells ops both.1)

-- the state of the cell at an address
cell_state : List Content → ℕ → ℕ → Triple
cell_state cells a v = triple a (get_or cells a no_content) v

-- the end rows of a part of the cells, whose addresses count from i, read the states of those cells
rom_ends_lem : (cells : List Content) (i : ℕ) (part : List Content) (keys : List ℕ) → ((j : ℕ) → get_or part j no_content ≡ get_or cells (i + j) no_content) → rom_ends i (rom_ends_from i part keys) ≡ ends_from (cell_state cells) i (length part) keys
unfolding rom_ends rom_ends_from end_row ends_from cell_state
rom_ends_lem cells i [] keys h = refl
rom_ends_lem cells i (v ∷ part) keys h =
    ap₂ {C = List Triple} (λ x rs. triple i x (occurrences i keys) ∷ rs) (h 0 ∙ ap (λ (k : ℕ). get_or cells k no_content) (omega arith)) (rom_ends_lem cells (suc i) part keys (λ j. h (suc j) ∙ ap (λ (k : ℕ). get_or cells k no_content) (omega arith)))

-- the init rows write what end rows read before any look
rom_inits : (i : ℕ) (inits : List Input) → init_writes i (map bare inits) ≡ rom_ends i (rom_ends_from i (map (λ i. i.value) inits) [])
unfolding init_writes rom_ends rom_ends_from end_row bare filled_row occurrences
rom_inits i [] = refl
rom_inits i (x ∷ inits) = ap {B = List Triple} (λ rs. triple i x.value 0 ∷ rs) (rom_inits (suc i) inits)

-- the end rows of all cells
rom_ends_whole : (cells : List Content) (keys : List ℕ) → rom_ends 0 (rom_ends_from 0 cells keys) ≡ ends_from (cell_state cells) 0 (length cells) keys
rom_ends_whole cells keys = rom_ends_lem cells 0 cells keys (λ j. ap (λ (k : ℕ). get_or cells k no_content) (omega arith))

-- the rom of the honest prover balances
pub rom_complete : (q : ℕ) (inits ops : List Input) → possible Rom (map (λ i. i.value) inits) ops ≡ true → length ops < q → EquallyOften (init_writes 0 (map bare inits) ++ map (look_write q) (rom_ops (map (λ i. i.value) inits) [] ops)) (map look_read (rom_ops (map (λ i. i.value) inits) [] ops) ++ rom_ends 0 (rom_final (map (λ i. i.value) inits) [] ops))
unfolding rom_ops rom_final rom_row filled_row look_read look_write cell_state
rom_complete q inits ops e few =
    let cells : List Content = map (λ i. i.value) inits in
    honest_often (λ i. i.addr) (rom_row cells) look_read (look_write q) q (λ i v. refl) (ends_from (cell_state cells) 0 (length cells)) (λ i. i.addr < length cells) (λ i keys h. ends_raised (cell_state cells) i.addr 0 (length cells) keys (omega arith) (omega (arith, h))) (init_writes 0 (map bare inits)) (rom_ends 0 (rom_final cells [] ops)) ops (rom_inits 0 inits ∙ rom_ends_whole cells []) (rom_ends_whole cells (keys_after (λ i. i.addr) [] ops)) few (possible_inside cells ops e)

-- the first of some looks that fit, and the others
right_look : (cells : List Content) (row : Row) (rows : List Row) → all_fit cells (map (operation_of Rom) (row ∷ rows)) ≡ true → (ltb row.addr (length cells) ≡ true) × (row.old ≡ get_or cells row.addr no_content) × (all_fit cells (map (operation_of Rom) rows) ≡ true)
unfolding all_fit fits after operation_of
right_look cells row rows e =
    let both = both_true (fits cells (look row.addr row.old)) (all_fit cells (map (operation_of Rom) rows)) e in
    let fit = both_true (ltb row.addr (length cells)) (same_content row.old (get_or cells row.addr no_content)) both.0 in
    (fit.0, same_content_lem row.old (get_or cells row.addr no_content) fit.1, both.1)

-- a right trace is possible, and the honest operation rows have the same trace
pub rom_right_possible : (cells : List Content) (rows : List Row) → all_fit cells (map (operation_of Rom) rows) ≡ true → possible Rom cells (map input_of rows) ≡ true
unfolding possible input_of
rom_right_possible cells [] e = refl
rom_right_possible cells (row ∷ rows) e =
    let parts = right_look cells row rows e in
    look_possible cells (input_of row) (map input_of rows) ∙ ap₂ ◌&&◌ parts.0 (rom_right_possible cells rows parts.2)

pub rom_right_trace : (cells : List Content) (keys : List ℕ) (rows : List Row) → all_fit cells (map (operation_of Rom) rows) ≡ true → map (operation_of Rom) (rom_ops cells keys (map input_of rows)) ≡ map (operation_of Rom) rows
unfolding operation_of rom_ops rom_row honest filled_row input_of
rom_right_trace cells keys [] e = refl
rom_right_trace cells keys (row ∷ rows) e =
    let parts = right_look cells row rows e in
    ap₂ {C = List Operation} (λ x os. look row.addr x ∷ os) (sym parts.1) (rom_right_trace cells (row.addr ∷ keys) rows parts.2)

-- set: the operation row of an input at a version
unfoldable pub set_row : Input → ℕ → Row
set_row i v = filled_row i no_content 0 v

-- the operation rows after lookups of the values `keys`
unfoldable pub set_ops : List ℕ → List Input → List Row
set_ops = honest (λ i. number_of i.value) set_row

-- the end rows after them
unfoldable pub set_final : List Content → List ℕ → List Input → List Row
set_final elements keys ops = set_ends_from [] elements (keys_after (λ i. number_of i.value) keys ops)

-- the rows of a set are its operation rows, then its end rows
pub set_rows : (elements : List Content) (keys : List ℕ) (ops : List Input) → set_from elements keys ops ≡ set_ops keys ops ++ set_final elements keys ops
unfolding set_from set_ops set_final set_row honest keys_after
set_rows elements keys [] = refl
set_rows elements keys (i ∷ ops) = ap {B = List Row} (λ rs. set_row i (occurrences (number_of i.value) keys) ∷ rs) (set_rows elements (number_of i.value ∷ keys) ops)

-- as many operation rows as operations, as many end rows as elements
pub set_inputs : (keys : List ℕ) (ops : List Input) → map input_of (set_ops keys ops) ≡ ops
unfolding set_ops set_row honest filled_row input_of
set_inputs keys [] = refl
set_inputs keys (i ∷ is) = ap {B = List Input} (λ l. i ∷ l) (set_inputs _ is)

pub length_set_ops : (keys : List ℕ) (ops : List Input) → length (set_ops keys ops) ≡ length ops
unfolding set_ops
length_set_ops keys ops = length_honest (λ i. number_of i.value) set_row keys ops

length_set_ends_from : (earlier elements : List Content) (keys : List ℕ) → length (set_ends_from earlier elements keys) ≡ length elements
unfolding set_ends_from
length_set_ends_from earlier [] keys = refl
length_set_ends_from earlier (v ∷ elements) keys = ap suc (length_set_ends_from (v ∷ earlier) elements keys)

pub length_set_final : (elements : List Content) (keys : List ℕ) (ops : List Input) → length (set_final elements keys ops) ≡ length elements
unfolding set_final
length_set_final elements keys ops = length_set_ends_from [] elements (keys_after (λ i. number_of i.value) keys ops)

-- a member is possible if its value is in the set
member_possible : (elements : List Content) (i : Input) (ops : List Input) → possible Set elements (i ∷ ops) ≡ (among (number_of i.value) elements && possible Set elements ops)
unfolding possible impossible input_operation operation_of after bare filled_row
member_possible elements i ops = ap (λ (b : Bool). b && possible Set elements ops) (no_fault 13 refl (among (number_of i.value) elements))

-- the first of some possible members, and the others
possible_member : (elements : List Content) (i : Input) (ops : List Input) → possible Set elements (i ∷ ops) ≡ true → (among (number_of i.value) elements ≡ true) × (possible Set elements ops ≡ true)
possible_member elements i ops e = both_true (among (number_of i.value) elements) (possible Set elements ops) (sym (member_possible elements i ops) ∙ e)

-- the values of possible members are in the set
possible_among : (elements : List Content) (ops : List Input) → possible Set elements ops ≡ true → All (λ i. among (number_of i.value) elements ≡ true) ops
possible_among elements [] e = tt
possible_among elements (i ∷ ops) e =
    let both = possible_member elements i ops e in
    (both.0, possible_among elements ops both.1)

-- "equal set elements give all lookups to the first": the version of the element v behind the elements `earlier`
own_version : List Content → ℕ → List ℕ → ℕ
own_version earlier v keys = cond (among v earlier) 0 (occurrences v keys)

-- it counts all lookups for the first of equal elements, none for a later one, and none before any lookup
own_first : (earlier : List Content) (v : ℕ) (keys : List ℕ) → among v earlier ≡ false → own_version earlier v keys ≡ occurrences v keys
unfolding own_version
own_first earlier v keys e = ap {B = ℕ} (λ b. cond b 0 (occurrences v keys)) e

own_later : (earlier : List Content) (v : ℕ) (keys : List ℕ) → among v earlier ≡ true → own_version earlier v keys ≡ 0
unfolding own_version
own_later earlier v keys e = ap {B = ℕ} (λ b. cond b 0 (occurrences v keys)) e

own_before : (earlier : List Content) (v : ℕ) → own_version earlier v [] ≡ 0
unfolding own_version occurrences
own_before earlier v = none (among v earlier)
  where
    none : (b : Bool) → ◌≡◌ {A = ℕ} (cond b 0 0) 0
    none true = refl
    none false = refl

-- a lookup of another element does not change the version, nor does one that an earlier element takes
own_other : (earlier : List Content) (v a : ℕ) (keys : List ℕ) → eqb v a ≡ false → own_version earlier v (a ∷ keys) ≡ own_version earlier v keys
unfolding own_version
own_other earlier v a keys e = ap {B = ℕ} (λ n. cond (among v earlier) 0 n) (occurs_other v a keys e)

own_taken : (earlier : List Content) (v a : ℕ) (keys : List ℕ) → among a earlier ≡ true → own_version earlier v (a ∷ keys) ≡ own_version earlier v keys
own_taken earlier v a keys taken = go (eqb v a) refl
  where
    go : (b : Bool) → eqb v a ≡ b → own_version earlier v (a ∷ keys) ≡ own_version earlier v keys
    go true e =
        let later = ap (λ (x : ℕ). among x earlier) (eqb-true v a e) ∙ taken in
        own_later earlier v (a ∷ keys) later ∙ sym (own_later earlier v keys later)
    go false e = own_other earlier v a keys e

-- a lookup that an earlier element takes changes no end row
set_taken : (a : ℕ) (earlier elements : List Content) (keys : List ℕ) → among a earlier ≡ true → set_ends_from earlier elements (a ∷ keys) ≡ set_ends_from earlier elements keys
unfolding set_ends_from among own_version
set_taken a earlier [] keys taken = refl
set_taken a earlier (v ∷ elements) keys taken =
    ap₂ {C = List Row} (λ n rs. end_row v no_content 0 n ∷ rs) (own_taken earlier (number_of v) a keys taken) (set_taken a (v ∷ earlier) elements keys (ap (λ (b : Bool). eqb a (number_of v) || b) taken ∙ or-true (eqb a (number_of v))))

-- a lookup of one of the elements raises the version of the first of its equals
set_raised : (a : ℕ) (earlier elements : List Content) (keys : List ℕ) → among a earlier ≡ false → among a elements ≡ true → Raises (λ keys. map member_read (set_ends_from earlier elements keys)) (pair a) a keys
unfolding total set_ends_from among member_read end_row own_version
set_raised a earlier [] keys free inside = absurd (false≢true inside)
set_raised a earlier (v ∷ elements) keys free inside = go (eqb a (number_of v)) refl inside (set_raised a (v ∷ earlier) elements keys)
  where
    go : (b : Bool)
        → eqb a (number_of v) ≡ b
        → (b || among a elements) ≡ true
        → ((eqb a (number_of v) || among a earlier) ≡ false → among a elements ≡ true → Raises (λ keys. map member_read (set_ends_from (v ∷ earlier) elements keys)) (pair a) a keys)
        → Raises (λ keys. map member_read (set_ends_from earlier (v ∷ elements) keys)) (pair a) a keys
    go true e inside rest weight =
        let here = sym (eqb-true a (number_of v) e) in
        let state : List ℕ → ℕ → ℕ = λ ks x. weight (pair x (own_version earlier x ks)) in
        omega (arith, ap (state (a ∷ keys)) here, ap (λ (n : ℕ). weight (pair a n)) (own_first earlier a (a ∷ keys) free ∙ occurs_same a keys), ap (state keys) here, ap (λ (n : ℕ). weight (pair a n)) (own_first earlier a keys free), ap (λ (rs : List Row). total weight (map member_read rs)) (set_taken a (v ∷ earlier) elements keys (ap (λ (b : Bool). b || among a earlier) e)))
    go false e inside rest weight =
        let apart = ne_eqb (number_of v) a (λ p. eqb-false a (number_of v) e (sym p)) in
        omega (arith, ap (λ (n : ℕ). weight (pair (number_of v) n)) (own_other earlier (number_of v) a keys apart), rest (ap₂ ◌||◌ e free) inside weight)

-- the init rows write what end rows read before any lookup
set_inits : (earlier : List Content) (inits : List Input) → map set_init (map bare inits) ≡ map member_read (set_ends_from earlier (map (λ i. i.value) inits) [])
unfolding set_init member_read set_ends_from end_row bare filled_row own_version
set_inits earlier [] = refl
set_inits earlier (x ∷ inits) =
    ap₂ {C = List Triple} (λ n rs. pair (number_of x.value) n ∷ rs) (sym (own_before earlier (number_of x.value))) (set_inits (x.value ∷ earlier) inits)

-- the set of the honest prover balances
pub set_complete : (q : ℕ) (inits ops : List Input) → possible Set (map (λ i. i.value) inits) ops ≡ true → length ops < q → EquallyOften (map set_init (map bare inits) ++ map (member_write q) (set_ops [] ops)) (map member_read (set_ops [] ops) ++ map member_read (set_final (map (λ i. i.value) inits) [] ops))
unfolding set_ops set_final set_row filled_row member_read member_write among
set_complete q inits ops e few =
    let elements : List Content = map (λ i. i.value) inits in
    let ends : List ℕ → List Triple = λ keys. map member_read (set_ends_from [] elements keys) in
    honest_often (λ i. number_of i.value) set_row member_read (member_write q) q (λ i v. refl) ends (λ i. among (number_of i.value) elements ≡ true) (λ i keys h. set_raised (number_of i.value) [] elements keys refl h) (map set_init (map bare inits)) (map member_read (set_final elements [] ops)) ops (set_inits [] inits) refl few (possible_among elements ops e)

-- a right trace is possible, and the honest operation rows have the same trace
pub set_right_possible : (elements : List Content) (rows : List Row) → all_fit elements (map (operation_of Set) rows) ≡ true → possible Set elements (map input_of rows) ≡ true
unfolding all_fit fits after operation_of possible input_of
set_right_possible elements [] e = refl
set_right_possible elements (row ∷ rows) e =
    let both = both_true (among (number_of row.value) elements) (all_fit elements (map (operation_of Set) rows)) e in
    member_possible elements (input_of row) (map input_of rows) ∙ ap₂ ◌&&◌ both.0 (set_right_possible elements rows both.1)

pub set_right_trace : (keys : List ℕ) (rows : List Row) → map (operation_of Set) (set_ops keys (map input_of rows)) ≡ map (operation_of Set) rows
unfolding operation_of set_ops set_row honest filled_row input_of
set_right_trace keys [] = refl
set_right_trace keys (row ∷ rows) = ap {B = List Operation} (λ os. member (number_of row.value) ∷ os) (set_right_trace (number_of row.value ∷ keys) rows)
