-- The lists that the equations take from the rows: how many records each has, and that the entries of each record are below q.
-- Assumes nothing.
use Prim.Native.Nat.{ℕ, zero, suc, ◌+◌, ◌≤◌, ◌<◌}
use mathlib.Core.Path.{◌≡◌, refl, ◌∙◌, ap}
use mathlib.Core.Bool.{Bool, true, false, ◌||◌, cond}
use mathlib.Core.List.{List, [], ◌∷◌, ◌++◌, map}
use native.Mathlib.Nat.{mod-lt}
use native.Mathlib.Omega.{arith}
use lib.Dec.{eqb}
use lib.ListN.{length, length-append, length-map}
use borrow.Author.Tests.{leb-true}
use Rattle.algebra.specs.Modulo.{plus, minus}
use Rattle.memory.specs.declared.Memory.{Memory}
use Rattle.memory.specs.declared.Memory.TheVariants.{Stack, Queue}
use Rattle.memory.specs.declared.Op.TheVariants.{Push, Pop, Enqueue, Dequeue}
use Rattle.memory.specs.declared.Row.{Row}
use Rattle.memory.specs.Content.{Content}
use Rattle.memory.specs.Names.{op_code, is_op}
use Rattle.memory.specs.Rows.{raise_by, lower_by, raised, lowered, ops_due}
use Rattle.memory.specs.Equations.{Triple, triple, pair, Lookup, init_writes, look_read, look_write, rom_ends, set_init, member_read, member_write}
use Rattle.memory.specs.Equations.{range_setup, range_read, range_write, range_ends, access_read, new_of, access_writes, access_lookups, cell_ends}
use Rattle.memory.specs.Equations.{push_write, push_writes, pop_read, pop_reads, pop_lookup, pop_lookups, enqueues, dequeues, end_olds}
use Rattle.memory.specs.Gates.{rows_with, takes}
use Rattle.memory.proofs.Content.{ContentBelow}
use Rattle.memory.proofs.Operations.{Ops, row_at, row_cases}
use Rattle.demands.proofs.Balance.{TriplesBelow, ContentsBelow}
use Rattle.memory.proofs.ReadFields.{chosen}
use Rattle.memory.proofs.ReadRows.{RowBelow, RowsBelow}

-- the sum and the difference modulo q are below q
plus_below : (q x y : ℕ) → 0 < q → plus q x y < q
unfolding plus
plus_below q x y positive = mod-lt (x + y) positive

minus_below : (q x y : ℕ) → 0 < q → minus q x y < q
unfolding minus
minus_below q x y positive = mod-lt _ positive

-- k triples with entries below q
pub record Triples (q k : ℕ) (ts : List Triple) : Type 0 where
  pub count : length ts ≡ k
  pub below : TriplesBelow q ts

-- the entries of a triple are below q, and its content nothing but its number
abbrev TripleBelow : ℕ → Triple → Type 0
TripleBelow q t = (t.x < q) × ContentBelow q t.y × (t.z < q)

-- no triple, one more triple, and two lists of triples
no_triples : {q : ℕ} → Triples q 0 []
no_triples = record { count = refl; below = tt }

one_more : {q k : ℕ} {t : Triple} {ts : List Triple} → TripleBelow q t → Triples q k ts → Triples q (suc k) (t ∷ ts)
one_more b h = record { count = ap suc h.count; below = (b.0, b.1, b.2, h.below) }

append_below : (q : ℕ) (ts us : List Triple) → TriplesBelow q ts → TriplesBelow q us → TriplesBelow q (ts ++ us)
append_below q [] us ht hu = hu
append_below q (t ∷ ts) us ht hu = (ht.0, ht.1, ht.2, append_below q ts us ht.3 hu)

pub append_triples : {q j k : ℕ} {ts us : List Triple} → Triples q j ts → Triples q k us → Triples q (j + k) (ts ++ us)
append_triples {q} {j} {k} {ts} {us} ht hu = record {
  count = omega (arith, length-append ts us, ht.count, hu.count);
  below = append_below q ts us ht.below hu.below;
}

-- a triple for each row
row_triples :
    (q : ℕ) (f : Row → Triple) → ((row : Row) → RowBelow q row → TripleBelow q (f row))
    → (rows : List Row) → RowsBelow q rows → Triples q (length rows) (map f rows)
row_triples q f below [] h = no_triples
row_triples q f below (row ∷ rows) h = one_more (below row h.0) (row_triples q f below rows h.1)

-- a number below q shows that q is not 0
positive : (q x : ℕ) → x < q → 0 < q
positive q x h = omega arith

-- rom and ram: the init rows
pub init_writes_lem : (q i : ℕ) (rows : List Row) → i + length rows ≤ q → RowsBelow q rows → Triples q (length rows) (init_writes i rows)
unfolding init_writes triple
init_writes_lem q i [] l h = no_triples
init_writes_lem q i (row ∷ rows) l h =
    one_more (omega arith, h.0.2, omega arith) (init_writes_lem q (suc i) rows (omega arith) h.1)

-- rom
pub look_reads : (q : ℕ) (rows : List Row) → RowsBelow q rows → Triples q (length rows) (map look_read rows)
unfolding look_read triple
look_reads q = row_triples q look_read (λ row h. (h.1, h.3, h.5))

pub look_writes : (q : ℕ) (rows : List Row) → RowsBelow q rows → Triples q (length rows) (map (look_write q) rows)
unfolding look_write triple
look_writes q = row_triples q (look_write q) (λ row h. (h.1, h.3, plus_below q row.version 1 (positive q _ h.0)))

pub rom_ends_lem : (q i : ℕ) (rows : List Row) → i + length rows ≤ q → RowsBelow q rows → Triples q (length rows) (rom_ends i rows)
unfolding rom_ends triple
rom_ends_lem q i [] l h = no_triples
rom_ends_lem q i (row ∷ rows) l h =
    one_more (omega arith, h.0.2, h.0.5) (rom_ends_lem q (suc i) rows (omega arith) h.1)

-- set
pub set_inits : (q : ℕ) (rows : List Row) → RowsBelow q rows → Triples q (length rows) (map set_init rows)
unfolding set_init pair triple
set_inits q = row_triples q set_init (λ row h. (h.2.0, (positive q _ h.0, refl), positive q _ h.0))

pub member_reads : (q : ℕ) (rows : List Row) → RowsBelow q rows → Triples q (length rows) (map member_read rows)
unfolding member_read pair triple
member_reads q = row_triples q member_read (λ row h. (h.2.0, (h.5, refl), positive q _ h.0))

pub member_writes : (q : ℕ) (rows : List Row) → RowsBelow q rows → Triples q (length rows) (map (member_write q) rows)
unfolding member_write pair triple
member_writes q =
    row_triples q (member_write q) (λ row h. (h.2.0, (plus_below q row.version 1 (positive q _ h.0), refl), positive q _ h.0))

-- k lookups with entries below q
abbrev LookupsBelow : ℕ → List Lookup → Type 0
LookupsBelow q [] = Unit {0}
LookupsBelow q (l ∷ ls) = (l.age < q) × (l.version < q) × LookupsBelow q ls

pub record LookedUp (q k : ℕ) (ls : List Lookup) : Type 0 where
  pub count : length ls ≡ k
  pub below : LookupsBelow q ls

-- range
pub range_setup_lem : (q i t : ℕ) → i + t ≤ q → Triples q t (range_setup i t)
unfolding range_setup pair triple
range_setup_lem q i zero l = no_triples
range_setup_lem q i (suc t) l = one_more (omega arith, (omega arith, refl), omega arith) (range_setup_lem q (suc i) t (omega arith))

-- the pairs that the lookups read and write
range_reads_below : (q : ℕ) (ls : List Lookup) → LookupsBelow q ls → TriplesBelow q (map range_read ls)
unfolding range_read pair triple
range_reads_below q [] h = tt
range_reads_below q (l ∷ ls) h = (h.0, (h.1, refl), positive q _ h.0, range_reads_below q ls h.2)

pub range_reads : {q k : ℕ} {ls : List Lookup} → LookedUp q k ls → Triples q k (map range_read ls)
range_reads {q} {k} {ls} h =
    record { count = length-map ls range_read ∙ h.count; below = range_reads_below q ls h.below }

range_writes_below : (q : ℕ) (ls : List Lookup) → LookupsBelow q ls → TriplesBelow q (map (range_write q) ls)
unfolding range_write pair triple
range_writes_below q [] h = tt
range_writes_below q (l ∷ ls) h =
    (h.0, (plus_below q l.version 1 (positive q _ h.0), refl), positive q _ h.0, range_writes_below q ls h.2)

pub range_writes : {q k : ℕ} {ls : List Lookup} → LookedUp q k ls → Triples q k (map (range_write q) ls)
range_writes {q} {k} {ls} h =
    record { count = length-map ls (range_write q) ∙ h.count; below = range_writes_below q ls h.below }

-- the range rows
pub range_ends_lem : (q i : ℕ) (rows : List Row) → i + length rows ≤ q → RowsBelow q rows → Triples q (length rows) (range_ends i rows)
unfolding range_ends pair triple
range_ends_lem q i [] l h = no_triples
range_ends_lem q i (row ∷ rows) l h =
    one_more (omega arith, (h.0.5, refl), omega arith) (range_ends_lem q (suc i) rows (omega arith) h.1)

-- ram
pub access_reads : (q : ℕ) (rows : List Row) → RowsBelow q rows → Triples q (length rows) (map access_read rows)
unfolding access_read triple
access_reads q = row_triples q access_read (λ row h. (h.1, h.3, h.4))

-- both branches of a choice are below q
chosen_below : (q : ℕ) (b : Bool) (x y : ℕ) → x < q → y < q → cond b x y < q
chosen_below q true x y hx hy = hx
chosen_below q false x y hx hy = hy

-- one write for each access
pub access_writes_lem :
    (q clock : ℕ) (rows : List Row) → clock + length rows ≤ q → RowsBelow q rows → Triples q (length rows) (access_writes clock rows)
unfolding access_writes new_of triple
access_writes_lem q clock [] l h = no_triples
access_writes_lem q clock (row ∷ rows) l h =
    one_more (h.0.1, chosen (ContentBelow q) (eqb row.guard 1) h.0.2 h.0.3, omega arith)
    (access_writes_lem q (suc clock) rows (omega arith) h.1)

-- one lookup for each access
pub access_lookups_lem : (q clock : ℕ) (rows : List Row) → RowsBelow q rows → LookedUp q (length rows) (access_lookups q clock rows)
unfolding access_lookups
access_lookups_lem q clock [] h = record { count = refl; below = tt }
access_lookups_lem q clock (row ∷ rows) h =
    let rest = access_lookups_lem q (suc clock) rows h.1 in
    record {
      count = ap suc rest.count;
      below = (minus_below q clock row.time (positive q _ h.0.0), h.0.5, rest.below);
    }

-- ram and stack: the end rows
pub cell_ends_lem : (q i : ℕ) (rows : List Row) → i + length rows ≤ q → RowsBelow q rows → Triples q (length rows) (cell_ends i rows)
unfolding cell_ends triple
cell_ends_lem q i [] l h = no_triples
cell_ends_lem q i (row ∷ rows) l h =
    one_more (omega arith, h.0.3, h.0.4) (cell_ends_lem q (suc i) rows (omega arith) h.1)

-- stack and queue: each operation raises or lowers the depth by at most 1
pub raised_at_most : (m : Memory) (ops : List Row) → Ops m ops → raised ops ≤ length ops
unfolding raised raise_by
raised_at_most m [] h = omega arith
raised_at_most m (row ∷ rows) h =
    omega (
      arith,
      raised_at_most m rows h.2,
      chosen_below 2 (is_op row.op Push || is_op row.op Enqueue) row.guard 0 (omega (arith, leb-true row.guard 1 h.1)) (omega arith),
    )

pub lowered_at_most : (m : Memory) (ops : List Row) → Ops m ops → lowered ops ≤ length ops
unfolding lowered lower_by
lowered_at_most m [] h = omega arith
lowered_at_most m (row ∷ rows) h =
    omega (
      arith,
      lowered_at_most m rows h.2,
      chosen_below 2 (is_op row.op Pop || is_op row.op Dequeue) row.guard 0 (omega (arith, leb-true row.guard 1 h.1)) (omega arith),
    )

-- stack: the pops are no more than the operations
pub takes_at_most : (ops : List Row) → Ops Stack ops → takes ops ≤ length ops
unfolding takes rows_with is_op op_code row_at ops_due
takes_at_most [] due = omega arith
takes_at_most (row ∷ rows) due =
    let rest = takes_at_most rows due.2 in
    row_cases (λ (r : Row). takes (r ∷ rows) ≤ suc (length rows)) Push Pop row
    (omega arith) (omega arith) (omega arith) (omega arith) due.0 due.1

-- stack: as many records are written as the depth rises
abbrev Pushed : ℕ → List Row → Type 0
Pushed q ops = (up down : ℕ) → up + raised ops < q → Triples q (raised ops) (push_writes q up down ops)

pub push_writes_lem : (q : ℕ) (ops : List Row) → Ops Stack ops → RowsBelow q ops → Pushed q ops
unfolding raised raise_by lower_by push_writes push_write is_op op_code row_at ops_due triple
push_writes_lem q [] due h = λ up down l. no_triples
push_writes_lem q (row ∷ rows) due h =
    let rest : Pushed q rows = push_writes_lem q rows due.2 h.1 in
    row_cases (λ (r : Row). Pushed q (r ∷ rows)) Push Pop row
    (λ up down l.
    let more = rest (up + 1) (down + 0) (omega arith) in
    record {
      count = omega (arith, more.count);
      below = (minus_below q (up + 1) down (omega arith), h.0.2, omega arith, more.below);
    })
    (λ up down l. let more = rest (up + 0) (down + 0) (omega arith) in record { count = omega (arith, more.count); below = more.below })
    (λ up down l. let more = rest (up + 0) (down + 1) (omega arith) in record { count = omega (arith, more.count); below = more.below })
    (λ up down l. let more = rest (up + 0) (down + 0) (omega arith) in record { count = omega (arith, more.count); below = more.below })
    due.0
    due.1

-- stack: as many records are read as the depth falls
abbrev Popped : ℕ → List Row → Type 0
Popped q ops = (up down : ℕ) → Triples q (lowered ops) (pop_reads q up down ops)

pub pop_reads_lem : (q : ℕ) (ops : List Row) → Ops Stack ops → RowsBelow q ops → Popped q ops
unfolding lowered raise_by lower_by pop_reads pop_read is_op op_code row_at ops_due triple
pop_reads_lem q [] due h = λ up down. no_triples
pop_reads_lem q (row ∷ rows) due h =
    let rest : Popped q rows = pop_reads_lem q rows due.2 h.1 in
    row_cases (λ (r : Row). Popped q (r ∷ rows)) Push Pop row
    (λ up down. let more = rest (up + 1) (down + 0) in record { count = omega (arith, more.count); below = more.below })
    (λ up down. let more = rest (up + 0) (down + 0) in record { count = omega (arith, more.count); below = more.below })
    (λ up down.
    let more = rest (up + 0) (down + 1) in
    record {
      count = omega (arith, more.count);
      below = (minus_below q up down (positive q _ h.0.0), h.0.3, h.0.4, more.below);
    })
    (λ up down. let more = rest (up + 0) (down + 0) in record { count = omega (arith, more.count); below = more.below })
    due.0
    due.1

-- stack: every pop is looked up, skipped ones too
abbrev PoppedAges : ℕ → List Row → Type 0
PoppedAges q ops = (up : ℕ) → LookedUp q (takes ops) (pop_lookups q up ops)

pub pop_lookups_lem : (q : ℕ) (ops : List Row) → Ops Stack ops → RowsBelow q ops → PoppedAges q ops
unfolding takes rows_with raise_by pop_lookups pop_lookup is_op op_code row_at ops_due
pop_lookups_lem q [] due h = λ up. record { count = refl; below = tt }
pop_lookups_lem q (row ∷ rows) due h =
    let rest : PoppedAges q rows = pop_lookups_lem q rows due.2 h.1 in
    let age : (up : ℕ) → minus q (up + 1) row.time < q = λ up. minus_below q (up + 1) row.time (positive q _ h.0.0) in
    row_cases (λ (r : Row). PoppedAges q (r ∷ rows)) Push Pop row
    (λ up. let more = rest (up + 1) in record { count = omega (arith, more.count); below = more.below })
    (λ up. let more = rest (up + 0) in record { count = omega (arith, more.count); below = more.below })
    (λ up. let more = rest (up + 0) in record { count = omega (arith, more.count); below = (age up, h.0.5, more.below) })
    (λ up. let more = rest (up + 0) in record { count = omega (arith, more.count); below = (age up, h.0.5, more.below) })
    due.0
    due.1

-- k contents that are numbers below q
pub record Contents (q k : ℕ) (xs : List Content) : Type 0 where
  pub count : length xs ≡ k
  pub below : ContentsBelow q xs

-- two lists of contents
contents_append_below : (q : ℕ) (xs ys : List Content) → ContentsBelow q xs → ContentsBelow q ys → ContentsBelow q (xs ++ ys)
contents_append_below q [] ys hx hy = hy
contents_append_below q (x ∷ xs) ys hx hy = (hx.0, contents_append_below q xs ys hx.1 hy)

pub append_contents : {q j k : ℕ} {xs ys : List Content} → Contents q j xs → Contents q k ys → Contents q (j + k) (xs ++ ys)
append_contents {q} {j} {k} {xs} {ys} hx hy = record {
  count = omega (arith, length-append xs ys, hx.count, hy.count);
  below = contents_append_below q xs ys hx.below hy.below;
}

-- queue
pub enqueued_contents : (q : ℕ) (ops : List Row) → Ops Queue ops → RowsBelow q ops → Contents q (raised ops) (enqueues ops)
unfolding raised raise_by enqueues is_op op_code row_at ops_due
enqueued_contents q [] due h = record { count = refl; below = tt }
enqueued_contents q (row ∷ rows) due h =
    let rest = enqueued_contents q rows due.2 h.1 in
    row_cases (λ (r : Row). Contents q (raised (r ∷ rows)) (enqueues (r ∷ rows))) Enqueue Dequeue row
    (record { count = omega (arith, rest.count); below = (h.0.2, rest.below) })
    (record { count = omega (arith, rest.count); below = rest.below })
    (record { count = omega (arith, rest.count); below = rest.below })
    (record { count = omega (arith, rest.count); below = rest.below })
    due.0
    due.1

pub dequeued_contents : (q : ℕ) (ops : List Row) → Ops Queue ops → RowsBelow q ops → Contents q (lowered ops) (dequeues ops)
unfolding lowered lower_by dequeues is_op op_code row_at ops_due
dequeued_contents q [] due h = record { count = refl; below = tt }
dequeued_contents q (row ∷ rows) due h =
    let rest = dequeued_contents q rows due.2 h.1 in
    row_cases (λ (r : Row). Contents q (lowered (r ∷ rows)) (dequeues (r ∷ rows))) Enqueue Dequeue row
    (record { count = omega (arith, rest.count); below = rest.below })
    (record { count = omega (arith, rest.count); below = rest.below })
    (record { count = omega (arith, rest.count); below = (h.0.3, rest.below) })
    (record { count = omega (arith, rest.count); below = rest.below })
    due.0
    due.1

pub ended_contents : (q : ℕ) (rows : List Row) → RowsBelow q rows → Contents q (length rows) (end_olds rows)
unfolding end_olds
ended_contents q [] h = record { count = refl; below = tt }
ended_contents q (row ∷ rows) h =
    let rest = ended_contents q rows h.1 in
    record { count = ap suc rest.count; below = (h.0.3, rest.below) }
