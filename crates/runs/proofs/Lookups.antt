-- Lookup by version (rom, set, range): if the records written and the records read hold the same records equally often, and the lookups are fewer
-- than q, then every key that is looked up is the key of an initial record, whatever the end rows read. Then the rom, the set and the range.
-- Assumes nothing.
use Prim.Native.Nat.{ℕ, zero, suc, ◌+◌, ◌*◌, ◌/◌, ◌%◌, ◌≤◌, ◌<◌}
use native.Mathlib.Nat.{div-add-mod}
use native.Mathlib.Omega.{arith}
use mathlib.Core.Path.{◌≡◌, refl, sym, ◌∙◌, ap, ap₂}
use mathlib.Core.Bool.{Bool, true, false, ◌&&◌, ◌||◌, true≢false, false≢true}
use mathlib.Core.List.{List, [], ◌∷◌, ◌++◌, map}
use lib.Dec.{eqb}
use lib.ListN.{length, get_or}
use borrow.Author.Tests.{eqb-true, eq-eqb, lt-ltb}
use Rattle.algebra.specs.Modulo.{plus}
use Rattle.algebra.specs.Multiset.{total, EquallyOften}
use Rattle.algebra.specs.Sum.{bit}
use Rattle.algebra.proofs.Multiset.{total_append}
use Rattle.memory.specs.declared.Memory.TheVariants.{Rom, Set}
use Rattle.memory.specs.declared.Row.{Row}
use Rattle.memory.specs.Content.{Content, no_content, same_content, number_of}
use Rattle.memory.specs.Equations.{Triple, triple, pair, Lookup, init_writes, look_read, look_write, set_init, member_read, member_write, range_setup, range_read, range_write}
use Rattle.memory.proofs.Content.{same_content_lem, content_same}
use Rattle.runs.specs.Plain.{among, fits, after, all_fit, operation_of, look}
use Rattle.runs.proofs.Ages.{InRange}

-- a bit is at most 1
bit_at_most_one : (b : Bool) → bit b ≤ 1
unfolding bit
bit_at_most_one true = omega arith
bit_at_most_one false = omega arith

-- a weight whose sum is 0 stays without weight when it is multiplied
total_product_zero : {A : Type 0} (f g : A → ℕ) (xs : List A) → total f xs ≡ 0 → total (λ x. f x * g x) xs ≡ 0
unfolding total
total_product_zero f g [] e = refl
total_product_zero f g (x ∷ xs) e =
    let first : f x ≡ 0 = omega (arith, e) in
    omega (arith, ap (λ (t : ℕ). t * g x) first, total_product_zero f g xs (omega (arith, e)))

-- a multiple of q below q is 0
multiple_below : (q w k : ℕ) → q * w ≡ k → k < q → k ≡ 0
multiple_below q zero k e h = omega (arith, e)
multiple_below q (suc w) k e h = absurd (omega (arith, e, h))

-- the sums of a weight over the parts of two lists that hold the same entries equally often
sums_of_often : {A : Type 0} (us vs xs ys : List A) → EquallyOften (us ++ vs) (xs ++ ys) → (weight : A → ℕ) → total weight us + total weight vs ≡ total weight xs + total weight ys
sums_of_often us vs xs ys often weight = omega (arith, often weight, total_append weight us vs, total_append weight xs ys)

-- both parts of a conjunction that holds
pub both_true : (a b : Bool) → (a && b) ≡ true → (a ≡ true) × (b ≡ true)
both_true true b e = (refl, e)
both_true false b e = absurd (false≢true e)

-- Records of a type R with a key; a test compares keys.
module _ {K R : Type 0} (test : K → K → Bool) (key : R → K) where
  -- k is the key of one of the records
  unfoldable pub contains : K → List R → Bool
  contains k [] = false
  contains k (r ∷ rs) = test k (key r) || contains k rs

  -- 1 for a record with the key k, 0 for another
  mark : K → R → ℕ
  mark k r = bit (test k (key r))

  -- records without the key k have no mark
  unmarked : (k : K) (rs : List R) → contains k rs ≡ false → total (mark k) rs ≡ 0
  unfolding contains mark total bit
  unmarked k [] e = refl
  unmarked k (r ∷ rs) e = go (test k (key r)) e (unmarked k rs)
    where
      go : (b : Bool) → (b || contains k rs) ≡ false → (contains k rs ≡ false → total (mark k) rs ≡ 0) → bit b + total (mark k) rs ≡ 0
      go true e rest = absurd (true≢false e)
      go false e rest = omega (arith, rest e)

  -- Lookups of a type L, each of which reads a record.
  module _ {L : Type 0} (read : L → R) where
    -- every key that is looked up is the key of an initial record
    abbrev pub Known : List R → List L → Type 0
    Known initial [] = Unit {0}
    Known initial (l ∷ ls) = (contains (key (read l)) initial ≡ true) × Known initial ls

    -- no key is looked up more often than there are lookups
    marks_at_most : (k : K) (ls : List L) → total (mark k) (map read ls) ≤ length ls
    unfolding total mark
    marks_at_most k [] = omega arith
    marks_at_most k (l ∷ ls) = omega (arith, bit_at_most_one (test k (key (read l))), marks_at_most k ls)

    -- if no key that is foreign to the initial records has a mark, every lookup's key is known: the test of a key against itself marks its own lookup
    known_of_unmarked : ((k : K) → test k k ≡ true) → (initial : List R) (ls : List L) → ((k : K) → contains k initial ≡ false → total (mark k) (map read ls) ≡ 0) → Known initial ls
    unfolding total mark bit
    known_of_unmarked self initial [] h = tt
    known_of_unmarked self initial (l ∷ ls) h =
        (first (contains (key (read l)) initial) refl, known_of_unmarked self initial ls (λ k e. omega (arith, h k e)))
      where
        first : (b : Bool) → contains (key (read l)) initial ≡ b → b ≡ true
        first true e = refl
        first false e = absurd (omega (arith, h (key (read l)) e, ap bit (self (key (read l)))))

    -- Each lookup writes the record that it reads with the version raised by 1 modulo q.
    module _ (version : R → ℕ) (write : L → R) (q : ℕ) (same_key : (l : L) → key (write l) ≡ key (read l)) (raised : (l : L) → version (write l) ≡ (version (read l) + 1) % q) where
      -- a lookup writes as many records of a key as it reads
      same_mark : (k : K) (l : L) → mark k (write l) ≡ mark k (read l)
      unfolding mark
      same_mark k l = ap (λ (j : K). bit (test k j)) (same_key l)

      same_marks : (k : K) (ls : List L) → total (mark k) (map write ls) ≡ total (mark k) (map read ls)
      unfolding total
      same_marks k [] = refl
      same_marks k (l ∷ ls) = omega (arith, same_mark k l, same_marks k ls)

      -- how often the versions of the lookups of k wrap
      wraps : K → List L → ℕ
      wraps k [] = 0
      wraps k (l ∷ ls) = mark k (read l) * ((version (read l) + 1) / q) + wraps k ls

      -- the versions written are the versions read, 1 more for each lookup of k, and q less for each wrap
      versions_rise : (k : K) (ls : List L) → total (λ r. mark k r * version r) (map write ls) + q * wraps k ls ≡ total (λ r. mark k r * version r) (map read ls) + total (mark k) (map read ls)
      unfolding total wraps
      versions_rise k [] = omega arith
      versions_rise k (l ∷ ls) =
          let m = mark k (read l) in
          let v = version (read l) in
          omega (arith, ap (λ (t : ℕ). m * t) (div-add-mod (v + 1) q), ap₂ (λ (s t : ℕ). s * t) (same_mark k l) (raised l), versions_rise k ls)

      -- a key of no initial record is not looked up
      foreign_unmarked : (initial : List R) (ls : List L) (ends : List R) → length ls < q → EquallyOften (initial ++ map write ls) (map read ls ++ ends) → (k : K) → contains k initial ≡ false → total (mark k) (map read ls) ≡ 0
      foreign_unmarked initial ls ends few often k e =
          let sums = sums_of_often initial (map write ls) (map read ls) ends often in
          let no-initial = unmarked k initial e in
          let no_ends : total (mark k) ends ≡ 0 = omega (arith, sums (mark k), same_marks k ls, no-initial) in
          let weightless = total_product_zero (mark k) version in
          multiple_below q (wraps k ls) (total (mark k) (map read ls))
          (omega (arith, sums (λ r. mark k r * version r), versions_rise k ls, weightless initial no-initial, weightless ends no_ends))
          (omega (arith, marks_at_most k ls, few))

      -- every key that is looked up is the key of an initial record
      pub lookups_known : ((k : K) → test k k ≡ true) → (initial : List R) (ls : List L) (ends : List R) → length ls < q → EquallyOften (initial ++ map write ls) (map read ls ++ ends) → Known initial ls
      lookups_known self initial ls ends few often = known_of_unmarked self initial ls (foreign_unmarked initial ls ends few often)

-- rom: the key of a record is its address and content
rom_key : Triple → ℕ × Content
rom_key t = (t.x, t.y)

-- the test of two such keys, which a key passes against itself
same_cell : ℕ × Content → ℕ × Content → Bool
same_cell c d = eqb c.0 d.0 && same_content c.1 d.1

same_cell_self : (c : ℕ × Content) → same_cell c c ≡ true
unfolding same_cell
same_cell_self c = ap₂ ◌&&◌ (eq-eqb c.0 c.0 refl) (content_same c.1 c.1 refl)

-- addr is the address of a cell with the content old, the addresses counting from i
record Held (i addr : ℕ) (old : Content) (content : List Content) : Type 0 where
  place : ℕ
  counted : addr ≡ i + place
  inside : place < length content
  found : old ≡ get_or content place no_content

-- the init rows write such records alone
rom_held : (i addr : ℕ) (old : Content) (inits : List Row) → contains same_cell rom_key (addr, old) (init_writes i inits) ≡ true → Held i addr old (map (λ row. row.value) inits)
unfolding contains init_writes same_cell rom_key triple
rom_held i addr old [] e = absurd (false≢true e)
rom_held i addr old (row ∷ inits) e = go (same_cell (addr, old) (i, row.value)) refl e (rom_held (suc i) addr old inits)
  where
    go : (b : Bool)
        → same_cell (addr, old) (i, row.value) ≡ b
        → (b || contains same_cell rom_key (addr, old) (init_writes (suc i) inits)) ≡ true
        → (contains same_cell rom_key (addr, old) (init_writes (suc i) inits) ≡ true → Held (suc i) addr old (map (λ row. row.value) inits))
        → Held i addr old (map (λ row. row.value) (row ∷ inits))
    go true t e rest =
        let both = both_true (eqb addr i) (same_content old row.value) t in
        record { place = 0; counted = omega (arith, eqb-true addr i both.0); inside = omega arith; found = same_content_lem old row.value both.1 }
    go false t e rest =
        let held = rest e in
        record { place = suc held.place; counted = omega (arith, held.counted); inside = omega (arith, held.inside); found = held.found }

-- a look of such a cell fits
held_fits : (addr : ℕ) (old : Content) (content : List Content) → Held 0 addr old content → fits content (look addr old) ≡ true
unfolding fits
held_fits addr old content h =
    let at : addr ≡ h.place = omega (arith, h.counted) in
    ap₂ ◌&&◌ (lt-ltb addr (length content) (omega (arith, at, h.inside))) (content_same old (get_or content addr no_content) (h.found ∙ ap (λ (k : ℕ). get_or content k no_content) (sym at)))

-- rom: looks with known keys fit
known_looks_fit : (inits ops : List Row) → Known same_cell rom_key look_read (init_writes 0 inits) ops → all_fit (map (λ row. row.value) inits) (map (operation_of Rom) ops) ≡ true
unfolding all_fit operation_of after look_read triple rom_key
known_looks_fit inits [] k = refl
known_looks_fit inits (row ∷ ops) k =
    ap₂ ◌&&◌ (held_fits row.addr row.old (map (λ row. row.value) inits) (rom_held 0 row.addr row.old inits k.0)) (known_looks_fit inits ops k.1)

-- rom: every look fits
pub rom_sound : (q : ℕ) (inits ops : List Row) (ends : List Triple) → length ops < q → EquallyOften (init_writes 0 inits ++ map (look_write q) ops) (map look_read ops ++ ends) → all_fit (map (λ row. row.value) inits) (map (operation_of Rom) ops) ≡ true
unfolding look_read look_write triple rom_key plus
rom_sound q inits ops ends few often =
    known_looks_fit inits ops
    (lookups_known same_cell rom_key look_read (λ t. t.z) (look_write q) q (λ row. refl) (λ row. refl) same_cell_self (init_writes 0 inits) ops ends few often)

-- set and range: the key of a record is its first entry
first_key : Triple → ℕ
first_key t = t.x

-- a number passes the test against itself
eqb_self : (k : ℕ) → eqb k k ≡ true
eqb_self k = eq-eqb k k refl

-- set: a key is known if it is a value of the set
set_among : (value : ℕ) (inits : List Row) → contains eqb first_key value (map set_init inits) ≡ among value (map (λ row. row.value) inits)
unfolding contains among first_key set_init pair triple
set_among value [] = refl
set_among value (row ∷ inits) = ap (λ (b : Bool). eqb value (number_of row.value) || b) (set_among value inits)

-- set: members with known keys fit
known_members_fit : (inits ops : List Row) → Known eqb first_key member_read (map set_init inits) ops → all_fit (map (λ row. row.value) inits) (map (operation_of Set) ops) ≡ true
unfolding all_fit operation_of fits after member_read pair triple first_key
known_members_fit inits [] k = refl
known_members_fit inits (row ∷ ops) k = ap₂ ◌&&◌ (sym (set_among (number_of row.value) inits) ∙ k.0) (known_members_fit inits ops k.1)

-- set: every member fits
pub set_sound : (q : ℕ) (inits ops : List Row) (ends : List Triple) → length ops < q → EquallyOften (map set_init inits ++ map (member_write q) ops) (map member_read ops ++ ends) → all_fit (map (λ row. row.value) inits) (map (operation_of Set) ops) ≡ true
unfolding member_read member_write pair triple first_key plus
set_sound q inits ops ends few often =
    known_members_fit inits ops
    (lookups_known eqb first_key member_read (λ t. number_of t.y) (member_write q) q (λ row. refl) (λ row. refl) eqb_self (map set_init inits) ops ends few often)

-- range: the set-up holds the t numbers from i on
range_holds : (age i t : ℕ) → contains eqb first_key age (range_setup i t) ≡ true → (i ≤ age) × (age < i + t)
unfolding contains range_setup first_key pair triple
range_holds age i zero e = absurd (false≢true e)
range_holds age i (suc t) e = go (eqb age i) refl e (range_holds age (suc i) t)
  where
    go : (b : Bool)
        → eqb age i ≡ b
        → (b || contains eqb first_key age (range_setup (suc i) t)) ≡ true
        → (contains eqb first_key age (range_setup (suc i) t) ≡ true → (suc i ≤ age) × (age < suc i + t))
        → (i ≤ age) × (age < i + suc t)
    go true p e rest = omega (arith, eqb-true age i p)
    go false p e rest = omega (arith, rest e)

-- range: known ages are in the range
known_ages_in_range : (t : ℕ) (lookups : List Lookup) → Known eqb first_key range_read (range_setup 1 t) lookups → InRange t lookups
unfolding range_read pair triple first_key
known_ages_in_range t [] k = tt
known_ages_in_range t (l ∷ ls) k =
    let within = range_holds l.age 1 t k.0 in
    (within.0, omega (arith, within.1), known_ages_in_range t ls k.1)

-- range: every age that is looked up is one of 1 to t
pub range_sound : (q t : ℕ) (lookups : List Lookup) (ends : List Triple) → length lookups < q → EquallyOften (range_setup 1 t ++ map (range_write q) lookups) (map range_read lookups ++ ends) → InRange t lookups
unfolding range_read range_write pair triple first_key plus
range_sound q t lookups ends few often =
    known_ages_in_range t lookups
    (lookups_known eqb first_key range_read (λ r. number_of r.y) (range_write q) q (λ l. refl) (λ l. refl) eqb_self (range_setup 1 t) lookups ends few often)
