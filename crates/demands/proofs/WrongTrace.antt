-- Rows without one of the faults 1 to 8: their trace is right, or the equations hold at no more than m · q ^ 3 challenges, m as document 01
-- gives it for the memory. The range's shuffle is looked at first: where it holds the same records equally often, the ages lie in the range, and
-- the memory's shuffle decides.
-- Assumes nothing.
use Prim.Native.Nat.{ℕ, zero, suc, ◌+◌, ◌-◌, ◌*◌, ◌^◌, ◌≤◌, ◌<◌, max}
use mathlib.Core.Path.{◌≡◌, refl, sym, ap, subst}
use mathlib.Core.Logic.{◌⊎◌, inl, inr, ◌≢◌}
use mathlib.Core.Bool.{Bool, true}
use mathlib.Core.List.{List, [], ◌∷◌, ◌++◌, map}
use native.Mathlib.Nat.{le_trans, zero-add}
use native.Mathlib.Decide.{dec_lt}
use native.Mathlib.Omega.{arith}
use lib.Dec.{eqb}
use lib.ListN.{length, take, drop}
use borrow.Author.Tests.{eqb-true, eqb-false}
use Rattle.algebra.specs.Modulo.{minus}
use Rattle.algebra.specs.Prime.{Prime}
use Rattle.algebra.specs.Multiset.{EquallyOften}
use Rattle.algebra.specs.Hash.{hash}
use Rattle.memory.specs.declared.Memory.{Memory}
use Rattle.memory.specs.declared.Memory.TheVariants.{Ram, Rom, Set, Stack, Queue}
use Rattle.memory.specs.declared.Op.TheVariants.{Enqueue, Dequeue}
use Rattle.memory.specs.declared.Row.{Row}
use Rattle.memory.specs.declared.Challenge.{Challenge}
use Rattle.memory.specs.Names.{op_code, is_op}
use Rattle.memory.specs.Rows.{sized, raise_by, lower_by, raised, lowered, ends_due, ranges_due, init_rows, operation_rows, ops_due, depth_factor, depth_product, sunk}
use Rattle.memory.specs.Equations.{Triple, Lookup, Lists, balanced, rom_ends, member_read}
use Rattle.memory.specs.Equations.{range_setup, range_read, range_write, range_ends, access_lookups, cell_ends}
use Rattle.memory.specs.Equations.{pop_lookups, enqueues, dequeues, end_olds, shuffle_lists, ranged_lists, lists_of}
use Rattle.memory.specs.Equations.{end_rows, range_rows, file_lists, range_balances, memory_balances}
use Rattle.memory.specs.Gates.{takes}
use Rattle.runs.specs.Plain.{start, right, trace_of}
use Rattle.memory.specs.Bound.{challenges, degree}
use Rattle.runs.proofs.Ages.{InRange}
use Rattle.memory.proofs.Operations.{Ops, row_at, row_cases}
use Rattle.runs.proofs.Differences.{minus_exact}
use Rattle.runs.proofs.Lookups.{rom_sound, set_sound, range_sound}
use Rattle.demands.proofs.RamSound.{ram_sound}
use Rattle.demands.proofs.StackSound.{stack_sound}
use Rattle.demands.proofs.QueueSound.{left_factor, right_factor, queue_sound}
use Rattle.demands.proofs.Balance.{challenges_monotone, balanced_bound, hashes_bound}
use Rattle.memory.proofs.ReadRows.{both_pass, RowsBelow}
use Rattle.demands.proofs.WellFormed.{WellFormed, PartsBelow, parts_below}
use Rattle.demands.proofs.Sizes

-- a test of challenges that passes only where the equations of the rows hold
abbrev pub Balancing : ℕ → Memory → ℕ → ℕ → List Row → (Challenge → Bool) → Type 0
Balancing q m n t rows test =
    (ch : Challenge) → test ch ≡ true
    → (range_balances q ch (file_lists q m n t rows) ≡ true) × (memory_balances q ch (file_lists q m n t rows) ≡ true)

-- the trace is right, or few challenges pass the test
abbrev pub RightOrRare : ℕ → Memory → ℕ → ℕ → List Row → (Challenge → Bool) → Type 0
RightOrRare q m n t rows test = (right (trace_of m n t rows) ≡ true) ⊎ (challenges q test ≤ degree m n t rows * q ^ 3)

-- the memory's shuffle and hashes
shuffle_balances : (q : ℕ) (ch : Challenge) (l : Lists) → memory_balances q ch l ≡ true → balanced q ch l.written l.read ≡ true
unfolding memory_balances
shuffle_balances q ch l e = (both_pass (balanced q ch l.written l.read) _ e).0

hashes_agree :
    (q : ℕ) (ch : Challenge) (l : Lists) → memory_balances q ch l ≡ true
    → eqb (hash q ch.r l.enqueued) (hash q ch.r l.dequeued) ≡ true
unfolding memory_balances
hashes_agree q ch l e = (both_pass (balanced q ch l.written l.read) _ e).1

-- a shuffle that balances wherever a test passes: its lists hold the same records equally often, or few challenges pass
shuffle_decides :
    (q m j k : ℕ) (test : Challenge → Bool) (ts us : List Triple)
    → Prime q → Sizes.Triples q j ts → Sizes.Triples q k us → j ≤ m → k ≤ m
    → ((ch : Challenge) → test ch ≡ true → balanced q ch ts us ≡ true)
    → EquallyOften ts us ⊎ (challenges q test ≤ m * q ^ 3)
shuffle_decides q m j k test ts us prime ht hu lt lu balancing =
    elim (balanced_bound q m ts us prime (omega (arith, ht.count)) (omega (arith, hu.count)) ht.below hu.below) [
      | inl often ↦ inl often
      | inr few ↦ inr (le_trans (challenges_monotone q test (λ ch. balanced q ch ts us) balancing) few)
    ]

-- from what makes the trace right
right_where : {A B C : Type 0} → (A → B) → A ⊎ C → B ⊎ C
right_where f (inl a) = inl (f a)
right_where f (inr c) = inr c

-- rom: n + T records are written and read
right_or_rare_rom :
    (q n t : ℕ) (rows : List Row) (test : Challenge → Bool)
    → Prime q → t < q → n ≤ q → PartsBelow q Rom n t rows → WellFormed q Rom n t rows → Balancing q Rom n t rows test
    → RightOrRare q Rom n t rows test
unfolding right trace_of start degree file_lists lists_of shuffle_lists ends_due
right_or_rare_rom q n t rows test prime few small below well balancing =
    let inits : List Row = init_rows n rows in
    let ops : List Row = operation_rows n t rows in
    let ends : List Row = end_rows Rom n t rows in
    right_where
    (rom_sound q inits ops (rom_ends 0 ends) (omega (arith, well.operations)))
    (shuffle_decides q (t + n) (length inits + length ops) (length ops + length ends) test _ _ prime
    (Sizes.append_triples
    (Sizes.init_writes_lem q 0 inits (omega (arith, well.inits)) below.inits)
    (Sizes.look_writes q ops below.operations))
    (Sizes.append_triples
    (Sizes.look_reads q ops below.operations)
    (Sizes.rom_ends_lem q 0 ends (omega (arith, well.ends)) below.ends))
    (omega (arith, well.inits, well.operations))
    (omega (arith, well.operations, well.ends))
    (λ ch e. shuffle_balances q ch _ (balancing ch e).1))

-- set: n + T records are written and read
right_or_rare_set :
    (q n t : ℕ) (rows : List Row) (test : Challenge → Bool)
    → Prime q → t < q → PartsBelow q Set n t rows → WellFormed q Set n t rows → Balancing q Set n t rows test
    → RightOrRare q Set n t rows test
unfolding right trace_of start degree file_lists lists_of shuffle_lists ends_due
right_or_rare_set q n t rows test prime few below well balancing =
    let inits : List Row = init_rows n rows in
    let ops : List Row = operation_rows n t rows in
    let ends : List Row = end_rows Set n t rows in
    right_where
    (set_sound q inits ops (map member_read ends) (omega (arith, well.operations)))
    (shuffle_decides q (t + n) (length inits + length ops) (length ops + length ends) test _ _ prime
    (Sizes.append_triples (Sizes.set_inits q inits below.inits) (Sizes.member_writes q ops below.operations))
    (Sizes.append_triples (Sizes.member_reads q ops below.operations) (Sizes.member_reads q ends below.ends))
    (omega (arith, well.inits, well.operations))
    (omega (arith, well.operations, well.ends))
    (λ ch e. shuffle_balances q ch _ (balancing ch e).1))

-- ram and stack: the range's shuffle, of k lookups and t range rows
range_decides :
    (q m t k : ℕ) (test : Challenge → Bool) (lookups : List Lookup) (ranges : List Row)
    → Prime q → k < q → t < q → t + k ≤ m → Sizes.LookedUp q k lookups → RowsBelow q ranges → length ranges ≡ t
    → ((ch : Challenge) → test ch ≡ true
    → balanced q ch (range_setup 1 t ++ map (range_write q) lookups) (map range_read lookups ++ range_ends 1 ranges) ≡ true)
    → InRange t lookups ⊎ (challenges q test ≤ m * q ^ 3)
range_decides q m t k test lookups ranges prime few room enough looked below count balancing =
    right_where
    (range_sound q t lookups (range_ends 1 ranges) (omega (arith, looked.count)))
    (shuffle_decides q m (t + k) (k + length ranges) test _ _ prime
    (Sizes.append_triples (Sizes.range_setup_lem q 1 t (omega arith)) (Sizes.range_writes looked))
    (Sizes.append_triples (Sizes.range_reads looked) (Sizes.range_ends_lem q 1 ranges (omega (arith, count)) below))
    enough
    (omega (arith, count))
    balancing)

-- two steps that each decide, or leave few challenges
decided_twice : {A B C : Type 0} → A ⊎ C → (A → B ⊎ C) → B ⊎ C
decided_twice (inl a) next = next a
decided_twice (inr c) next = inr c

-- ram: T + T pairs are supplied and looked up, n + T records are written and read
right_or_rare_ram :
    (q n t : ℕ) (rows : List Row) (test : Challenge → Bool)
    → Prime q → 2 * t ≤ q → t + 1 < q → n ≤ q → PartsBelow q Ram n t rows → WellFormed q Ram n t rows → Balancing q Ram n t rows test
    → RightOrRare q Ram n t rows test
unfolding right trace_of start degree file_lists lists_of ranged_lists ends_due ranges_due range_balances
right_or_rare_ram q n t rows test prime wide room small below well balancing =
    let inits : List Row = init_rows n rows in
    let ops : List Row = operation_rows n t rows in
    let ends : List Row = end_rows Ram n t rows in
    decided_twice
    (range_decides q (t + max n t) t (length ops) test (access_lookups q 1 ops) (range_rows Ram n t rows) prime
    (omega (arith, well.operations))
    (omega arith)
    (omega (arith, well.operations))
    (Sizes.access_lookups_lem q 1 ops below.operations)
    below.ranges
    well.ranges
    (λ ch e. (balancing ch e).0))
    (λ ages. right_where
    (ram_sound q t inits ops (cell_ends 0 ends) wide well.operations ages)
    (shuffle_decides q (t + max n t) (length inits + length ops) (length ops + length ends) test _ _ prime
    (Sizes.append_triples
    (Sizes.init_writes_lem q 0 inits (omega (arith, well.inits)) below.inits)
    (Sizes.access_writes_lem q 1 ops (omega (arith, well.operations)) below.operations))
    (Sizes.append_triples
    (Sizes.access_reads q ops below.operations)
    (Sizes.cell_ends_lem q 0 ends (omega (arith, well.ends)) below.ends))
    (omega (arith, well.inits, well.operations))
    (omega (arith, well.operations, well.ends))
    (λ ch e. shuffle_balances q ch _ (balancing ch e).1)))

-- stack: T + Q pairs are supplied and looked up, and at most T records are written and read
right_or_rare_stack :
    (q n t : ℕ) (rows : List Row) (test : Challenge → Bool)
    → Prime q → 2 * t ≤ q → t + 1 < q → PartsBelow q Stack n t rows → WellFormed q Stack n t rows → Balancing q Stack n t rows test
    → RightOrRare q Stack n t rows test
unfolding right trace_of start degree file_lists lists_of ranged_lists ends_due ranges_due range_balances
right_or_rare_stack q n t rows test prime wide room below well balancing =
    let ops : List Row = operation_rows n t rows in
    let ends : List Row = end_rows Stack n t rows in
    let up : raised ops ≤ t = omega (arith, Sizes.raised_at_most Stack ops well.named, well.operations) in
    let down : lowered ops ≤ t = omega (arith, Sizes.lowered_at_most Stack ops well.named, well.operations) in
    let left : length ends ≡ raised ops - lowered ops = omega (arith, well.ends, well.rises, well.falls) in
    let taken : takes ops ≤ t = omega (arith, Sizes.takes_at_most ops well.named, well.operations) in
    decided_twice
    (range_decides q (t + takes ops) t (takes ops) test (pop_lookups q 0 ops) (range_rows Stack n t rows) prime
    (omega arith)
    (omega arith)
    (omega arith)
    (Sizes.pop_lookups_lem q ops well.named below.operations 0)
    below.ranges
    well.ranges
    (λ ch e. (balancing ch e).0))
    (λ ages. right_where
    (stack_sound q t ops (cell_ends 1 ends) well.named wide room well.operations ages)
    (shuffle_decides q (t + takes ops) (raised ops) (lowered ops + length ends) test _ _ prime
    (Sizes.push_writes_lem q ops well.named below.operations 0 0 (omega arith))
    (Sizes.append_triples
    (Sizes.pop_reads_lem q ops well.named below.operations 0 0)
    (Sizes.cell_ends_lem q 1 ends (omega arith) below.ends))
    (omega arith)
    (omega arith)
    (λ ch e. shuffle_balances q ch _ (balancing ch e).1)))

-- queue: where the depth product is not 0, there are no more dequeues than enqueues
abbrev Floating : ℕ → List Row → Type 0
Floating q ops = (up down : ℕ) → down ≤ up → depth_product q up down ops ≢ 0 → down + lowered ops ≤ up + raised ops

-- a dequeue whose factor is not 0 finds an element
element_there : (q up down : ℕ) → 0 < q → down ≤ up → minus q (up + 1) (down + 1) ≢ 0 → down < up
element_there q up down positive l factor = go (dec_lt down up)
  where
    go : Dec (down < up) → down < up
    go (yes h) = h
    go (no h) = absurd (factor (minus_exact q (up + 1) (down + 1) 0 (omega arith) positive))

depth_at_least_zero : (q : ℕ) (ops : List Row) → 0 < q → Ops Queue ops → Floating q ops
unfolding depth_product depth_factor raised lowered raise_by lower_by is_op op_code row_at ops_due
depth_at_least_zero q [] positive due = λ up down l product. omega arith
depth_at_least_zero q (row ∷ rows) positive due =
    let rest : Floating q rows = depth_at_least_zero q rows positive due.2 in
    row_cases (λ (r : Row). Floating q (r ∷ rows)) Enqueue Dequeue row
    (λ up down l product. omega (arith, rest (up + 1) (down + 0) (omega arith) (right_factor q _ _ product)))
    (λ up down l product. omega (arith, rest (up + 0) (down + 0) (omega arith) (right_factor q _ _ product)))
    (λ up down l product.
    let more = element_there q up down positive l (left_factor q _ _ product) in
    omega (arith, rest (up + 0) (down + 1) (omega arith) (right_factor q _ _ product)))
    (λ up down l product. omega (arith, rest (up + 0) (down + 0) (omega arith) (right_factor q _ _ product)))
    due.0
    due.1

-- queue: no 8 says that the depth product is not 0
depth_product_nonzero : (q n t : ℕ) (rows : List Row) → n ≡ 0 → WellFormed q Queue n t rows → depth_product q 0 0 (operation_rows n t rows) ≢ 0
unfolding depth_product sunk
depth_product_nonzero q n t rows none well = go t refl
  where
    same : take (n + t) rows ≡ take t (drop n rows)
    same = subst (λ (k : ℕ). take (k + t) rows ≡ take t (drop k rows)) (sym none) (ap (λ (k : ℕ). take k rows) (zero-add t))

    go : (k : ℕ) → t ≡ k → depth_product q 0 0 (take t (drop n rows)) ≢ 0
    go zero e = subst (λ (k : ℕ). depth_product q 0 0 (take k (drop n rows)) ≢ 0) (sym e) (omega arith)
    go (suc k) e =
        subst (λ (ops : List Row). depth_product q 0 0 ops ≢ 0) same
        (eqb-false (depth_product q 0 0 (take (n + t) rows)) 0 (well.floats (omega arith)))

-- queue: both hashes take as many elements as there are executed enqueues
right_or_rare_queue :
    (q n t : ℕ) (rows : List Row) (test : Challenge → Bool)
    → Prime q → n ≡ 0 → t < q → PartsBelow q Queue n t rows → WellFormed q Queue n t rows → Balancing q Queue n t rows test
    → RightOrRare q Queue n t rows test
unfolding right trace_of start degree file_lists lists_of ends_due
right_or_rare_queue q n t rows test prime none room below well balancing =
    let ops : List Row = operation_rows n t rows in
    let ends : List Row = end_rows Queue n t rows in
    let product = depth_product_nonzero q n t rows none well in
    let deep : lowered ops ≤ raised ops =
    omega (arith, depth_at_least_zero q ops (omega arith) well.named 0 0 (omega arith) product)
    in
    let ins = Sizes.enqueued_contents q ops well.named below.operations in
    let outs =
    Sizes.append_contents (Sizes.dequeued_contents q ops well.named below.operations) (Sizes.ended_contents q ends below.ends)
    in
    elim
    (hashes_bound q (length (enqueues ops)) (enqueues ops) (dequeues ops ++ end_olds ends) prime
    refl
    (omega (arith, ins.count, outs.count, well.ends, well.rises, well.falls))
    ins.below
    outs.below) [
      | inl same ↦ inl (queue_sound q ops (end_olds ends) well.named (omega (arith, well.operations)) same product)
      | inr few ↦ inr (le_trans (challenges_monotone q test _ (λ ch e. hashes_agree q ch _ (balancing ch e).1)) few)
    ]

-- the trace is right, or the equations hold at few challenges
pub right_or_rare :
    (q : ℕ) (m : Memory) (n t : ℕ) (rows : List Row) (test : Challenge → Bool)
    → Prime q → 2 * t ≤ q → t + 1 < q → n ≤ q → sized m n ≡ true
    → RowsBelow q rows → WellFormed q m n t rows → Balancing q m n t rows test
    → RightOrRare q m n t rows test
unfolding sized
right_or_rare q Ram n t rows test prime wide room small allowed below well balancing =
    right_or_rare_ram q n t rows test prime wide room small (parts_below q Ram n t rows below) well balancing
right_or_rare q Rom n t rows test prime wide room small allowed below well balancing =
    right_or_rare_rom q n t rows test prime (omega arith) small (parts_below q Rom n t rows below) well balancing
right_or_rare q Set n t rows test prime wide room small allowed below well balancing =
    right_or_rare_set q n t rows test prime (omega arith) (parts_below q Set n t rows below) well balancing
right_or_rare q Stack n t rows test prime wide room small allowed below well balancing =
    right_or_rare_stack q n t rows test prime wide room (parts_below q Stack n t rows below) well balancing
right_or_rare q Queue n t rows test prime wide room small allowed below well balancing =
    right_or_rare_queue q n t rows test prime (eqb-true n 0 allowed) (omega arith) (parts_below q Queue n t rows below) well balancing
