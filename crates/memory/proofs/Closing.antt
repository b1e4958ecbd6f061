-- The end of complete rows: what they emit is the lists of document 01's equations, the range's setup moved from its rows to the front; so the running products
-- answer what the equations do.
-- Assumes nothing.
use Prim.Native.Nat.{ℕ, ◌+◌, ◌*◌, ◌%◌, ◌≤◌, ◌<◌, min}
use native.Mathlib.Nat.{mod-lt, mod-eq_of_lt, le_antisymm}
use native.Mathlib.Omega.{arith}
use mathlib.Core.Path.{◌≡◌, refl, sym, ◌∙◌, ap, ap₂, subst}
use mathlib.Core.Bool.{true, ◌&&◌, cond, and-eq-true_iff}
use mathlib.Core.List.{List, [], ◌∷◌, ◌++◌, map, append-nil}
use lib.Dec.{eqb}
use lib.ListN.{length, take, drop, take-append-drop, length-take, length-drop, length-append}
use lib.Seq.{drop-drop}
use borrow.Author.Tests.{eqb-true}
use Rattle.algebra.specs.Modulo.{times}
use Rattle.algebra.specs.Hash.{hash, hash_from}
use Rattle.memory.specs.declared.Memory.{Memory}
use Rattle.memory.specs.declared.Memory.TheVariants.{Ram, Rom, Set, Stack, Queue}
use Rattle.memory.specs.declared.Phase.TheVariants.{Starting, Operating, Ending, Ranging}
use Rattle.memory.specs.declared.Row.{Row}
use Rattle.memory.specs.declared.Challenge.{Challenge}
use Rattle.memory.specs.declared.Products.{Products}
use Rattle.memory.specs.declared.Report.{Report}
use Rattle.memory.specs.Rows.{sized, allowed, raised, lowered, ranges_due, due_after}
use Rattle.memory.specs.Equations.{Triple, Lists, Lookup, factor, product, balanced, shuffle_lists, ranged_lists, lists_of, end_rows, range_rows, file_lists, range_balances, memory_balances, init_writes, range_setup, range_write, range_read, range_ends, access_read, access_writes, access_lookups, cell_ends, push_writes, pop_reads, pop_lookups}
use Rattle.memory.specs.File.{refused, accepted, balance_report}
use Rattle.memory.specs.Step.{multiplied}
use Rattle.memory.proofs.Counted.{times_comm, times_assoc}
use Rattle.memory.proofs.Due.{begins, spans}
use Rattle.memory.proofs.Emitted.{none, join, emitted, emitted_append, products_of}
use Rattle.memory.proofs.Placed.{Each, each_append, Complete, Placed, ends_in, placed_rows, placed_length}
use Rattle.memory.proofs.Expected.{expected, phase_emitted}

-- a product modulo q is below q
times_below : (q x y : ℕ) → 2 ≤ q → times q x y < q
unfolding times
times_below q x y le = mod-lt (x * y) (omega arith)

product_below : (q : ℕ) (ch : Challenge) (ts : List Triple) → 2 ≤ q → product q ch ts < q
unfolding product
product_below q ch [] le = le
product_below q ch (t ∷ ts) le = times_below q _ _ le

-- 1 times a number below q is the number
times_one : (q x : ℕ) → x < q → times q 1 x ≡ x
unfolding times
times_one q x lt = ap (λ (k : ℕ). k % q) (omega arith) ∙ mod-eq_of_lt lt

-- the running product is the product
multiplied_times : (q : ℕ) (ch : Challenge) (x : ℕ) (ts : List Triple) → 2 ≤ q → x < q → multiplied q ch x ts ≡ times q x (product q ch ts)
unfolding multiplied product
multiplied_times q ch x [] le lt = sym (times_comm q x 1 ∙ times_one q x lt)
multiplied_times q ch x (t ∷ ts) le lt =
    multiplied_times q ch (times q x (factor q ch t)) ts le (times_below q _ _ le) ∙ times_assoc q x (factor q ch t) (product q ch ts)

pub multiplied_product : (q : ℕ) (ch : Challenge) (ts : List Triple) → 2 ≤ q → multiplied q ch 1 ts ≡ product q ch ts
multiplied_product q ch ts le = multiplied_times q ch 1 ts le le ∙ times_one q (product q ch ts) (product_below q ch ts le)

-- a product over two lists does not depend on their order
product_append : (q : ℕ) (ch : Challenge) (ts us : List Triple) → 2 ≤ q → product q ch (ts ++ us) ≡ times q (product q ch ts) (product q ch us)
unfolding product
product_append q ch [] us le = sym (times_one q (product q ch us) (product_below q ch us le))
product_append q ch (t ∷ ts) us le =
    ap (times q (factor q ch t)) (product_append q ch ts us le) ∙ sym (times_assoc q (factor q ch t) (product q ch ts) (product q ch us))

multiplied_swap : (q : ℕ) (ch : Challenge) (ts us : List Triple) → 2 ≤ q → multiplied q ch 1 (ts ++ us) ≡ multiplied q ch 1 (us ++ ts)
multiplied_swap q ch ts us le =
    multiplied_product q ch (ts ++ us) le
    ∙ (product_append q ch ts us le
    ∙ (times_comm q _ _ ∙ (sym (product_append q ch us ts le) ∙ sym (multiplied_product q ch (us ++ ts) le))))

-- the lists of init rows, operations, end rows and range rows, joined
unfoldable pub parts : ℕ → Memory → List Row → List Row → List Row → List Row → Lists
parts q m inits ops ends ranges =
    join (expected q m Starting 0 0 0 inits)
    (join (expected q m Operating 0 (raised inits) (lowered inits) ops)
    (join (expected q m Ending 0 (raised (inits ++ ops)) (lowered (inits ++ ops)) ends)
    (expected q m Ranging 0 (raised (inits ++ ops ++ ends)) (lowered (inits ++ ops ++ ends)) ranges)))

-- rows in their places emit them
emitted_parts : (q : ℕ) (m : Memory) (n t e : ℕ) (inits ops ends ranges : List Row) → length inits ≡ n → length ops ≡ t → length ends ≡ e
    → length ranges ≡ ranges_due m t → Each (Placed m n t e) [] (inits ++ (ops ++ (ends ++ ranges)))
    → emitted q m n t [] (inits ++ (ops ++ (ends ++ ranges))) ≡ parts q m inits ops ends ranges
unfolding parts begins spans raised lowered
emitted_parts q m n t e inits ops ends ranges li lo le lr f =
    let f₁ = each_append (Placed m n t e) [] inits (ops ++ (ends ++ ranges)) f in
    let f₂ = each_append (Placed m n t e) inits ops (ends ++ ranges) f₁.1 in
    let f₃ = each_append (Placed m n t e) (inits ++ ops) ends ranges f₂.1 in
    emitted_append q m n t [] inits (ops ++ (ends ++ ranges))
    ∙ ap₂ join (phase_emitted q m n t e Starting 0 [] inits (omega arith) (omega arith) f₁.0)
    (emitted_append q m n t inits ops (ends ++ ranges)
    ∙ ap₂ join (phase_emitted q m n t e Operating 0 inits ops (omega arith) (omega arith) f₂.0)
    (emitted_append q m n t (inits ++ ops) ends ranges
    ∙ ap₂ join (phase_emitted q m n t e Ending 0 (inits ++ ops) ends (omega (arith, length-append inits ops)) (omega arith) f₃.0)
    (phase_emitted q m n t e Ranging 0 (inits ++ ops ++ ends) ranges (omega (arith, length-append inits ops, length-append (inits ++ ops) ends)) (omega arith) f₃.1)))

-- a list between two others, with nothing after it
append_inner : {A : Type 0} (xs ys : List A) → xs ++ (ys ++ []) ≡ xs ++ ys
append_inner xs ys = ap (λ zs. xs ++ zs) (append-nil ys)

-- the range's setup after the lookups has the products of the setup before them
ranged_products : (q t : ℕ) (ch : Challenge) (ws₁ ws₂ rs₁ rs₂ : List Triple) (lookups : List Lookup) (ranges : List Row) → 2 ≤ q → length ranges ≡ t
    → products_of q ch
    (record {
      written = ws₁ ++ (ws₂ ++ []);
      read = rs₁ ++ (rs₂ ++ []);
      supplied = map (range_write q) lookups ++ range_setup 1 (length ranges);
      looked = map range_read lookups ++ range_ends 1 ranges;
      enqueued = [];
      dequeued = [];
    })
    ≡ products_of q ch (ranged_lists q t (ws₁ ++ ws₂) (rs₁ ++ rs₂) lookups ranges)
unfolding ranged_lists products_of
ranged_products q t ch ws₁ ws₂ rs₁ rs₂ lookups ranges le l = λ i. record {
  written = multiplied q ch 1 (append_inner ws₁ ws₂ i);
  read = multiplied q ch 1 (append_inner rs₁ rs₂ i);
  supplied = setup i;
  looked = multiplied q ch 1 (map range_read lookups ++ range_ends 1 ranges);
  enqueued = hash_from q ch.r 0 [];
  dequeued = hash_from q ch.r 0 [];
}
  where
    setup : multiplied q ch 1 (map (range_write q) lookups ++ range_setup 1 (length ranges)) ≡ multiplied q ch 1 (range_setup 1 t ++ map (range_write q) lookups)
    setup =
        multiplied_swap q ch (map (range_write q) lookups) (range_setup 1 (length ranges)) le
        ∙ ap (λ (k : ℕ). multiplied q ch 1 (range_setup 1 k ++ map (range_write q) lookups)) l

-- so the parts have the products of the file's lists
products_of_parts : (q : ℕ) (m : Memory) (t : ℕ) (ch : Challenge) (inits ops ends ranges : List Row) → 2 ≤ q → length ranges ≡ ranges_due m t
    → (m ≡ Stack → inits ≡ [])
    → products_of q ch (parts q m inits ops ends ranges) ≡ products_of q ch (lists_of q m t inits ops ends ranges)
unfolding parts join expected none lists_of shuffle_lists ranges_due range_setup range_ends raised lowered
products_of_parts q Ram t ch inits ops ends ranges le l z =
    ranged_products q t ch (init_writes 0 inits) (access_writes 1 ops) (map access_read ops) (cell_ends 0 ends) (access_lookups q 1 ops) ranges le l
products_of_parts q Rom t ch inits ops ends [] le l z = ap (products_of q ch) (simp append-nil)
products_of_parts q Rom t ch inits ops ends (row ∷ rows) le l z = absurd (omega arith)
products_of_parts q Set t ch inits ops ends [] le l z = ap (products_of q ch) (simp append-nil)
products_of_parts q Set t ch inits ops ends (row ∷ rows) le l z = absurd (omega arith)
products_of_parts q Stack t ch inits ops ends ranges le l z =
    rw (z refl) (ranged_products q t ch [] (push_writes q 0 0 ops) (pop_reads q 0 0 ops) (cell_ends 1 ends) (pop_lookups q 0 ops) ranges le l)
products_of_parts q Queue t ch inits ops ends [] le l z = ap (products_of q ch) (simp append-nil)
products_of_parts q Queue t ch inits ops ends (row ∷ rows) le l z = absurd (omega arith)

-- all rows are their parts
split_rows : (n t e : ℕ) (rows : List Row)
    → take n rows ++ (take t (drop n rows) ++ (take e (drop (n + t) rows) ++ drop (n + t + e) rows)) ≡ rows
split_rows n t e rows =
    ap (λ (z : List Row). take n rows ++ (take t (drop n rows) ++ z)) (ap (λ (z : List Row). take e (drop (n + t) rows) ++ z) (sym (drop-drop e (n + t) rows)) ∙ take-append-drop e (drop (n + t) rows))
    ∙ (ap (λ (z : List Row). take n rows ++ (take t (drop n rows) ++ z)) (sym (drop-drop t n rows))
    ∙ (ap (λ (z : List Row). take n rows ++ z) (take-append-drop t (drop n rows)) ∙ take-append-drop n rows))

-- a stack has no init rows
no_inits : (m : Memory) (n t : ℕ) (rows : List Row) → allowed m n t ≡ true → m ≡ Stack → take n rows ≡ []
unfolding allowed sized
no_inits m n t rows a e = ap (λ (k : ℕ). take k rows) (eqb-true n 0 ((and-eq-true_iff (sized Stack n) _).0 (subst (λ (x : Memory). allowed x n t ≡ true) e a)).0)

-- the rows from one place on, as many as are asked for
length_part : (n t : ℕ) (rows : List Row) → n + t ≤ length rows → length (take t (drop n rows)) ≡ t
length_part n t rows le = length-take t (drop n rows) ∙ (ap (min t) (length-drop n rows) ∙ omega arith)

-- rows in their places, all that are due, have the products of their parts' lists
products_of_placed : (q : ℕ) (m : Memory) (n t e : ℕ) (ch : Challenge) (rows : List Row) → 2 ≤ q → allowed m n t ≡ true
    → length rows ≡ n + t + e + ranges_due m t → Each (Placed m n t e) [] rows
    → products_of q ch (emitted q m n t [] rows)
    ≡ products_of q ch (lists_of q m t (take n rows) (take t (drop n rows)) (take e (drop (n + t) rows)) (drop (n + t + e) rows))
products_of_placed q m n t e ch rows le a l placed =
    ap (products_of q ch)
    (ap (emitted q m n t []) (sym (split_rows n t e rows))
    ∙ emitted_parts q m n t e (take n rows) (take t (drop n rows)) (take e (drop (n + t) rows)) (drop (n + t + e) rows)
    (length_part 0 n rows (omega arith)) (length_part n t rows (omega arith)) (length_part (n + t) e rows (omega arith)) ranges
    (subst (Each (Placed m n t e) []) (sym (split_rows n t e rows)) placed))
    ∙ products_of_parts q m t ch (take n rows) (take t (drop n rows)) (take e (drop (n + t) rows)) (drop (n + t + e) rows) le ranges
    (no_inits m n t rows a)
  where
    ranges : length (drop (n + t + e) rows) ≡ ranges_due m t
    ranges = length-drop (n + t + e) rows ∙ omega arith

-- complete rows are all that are due
complete_length : (q : ℕ) (m : Memory) (n t : ℕ) (rows : List Row) → Complete q m n t [] rows → length rows ≡ n + t + ends_in m n rows + ranges_due m t
unfolding ends_in due_after
complete_length q m n t rows c =
    le_antisymm (placed_length m n t (ends_in m n rows) [] rows (placed_rows q m n t [] rows rows refl c.each) (omega arith)) c.whole

-- and have the products of the file's lists
pub products_of_file : (q : ℕ) (m : Memory) (n t : ℕ) (ch : Challenge) (rows : List Row) → 2 ≤ q → allowed m n t ≡ true → Complete q m n t [] rows
    → products_of q ch (emitted q m n t [] rows) ≡ products_of q ch (file_lists q m n t rows)
unfolding file_lists end_rows range_rows ends_in
products_of_file q m n t ch rows le a c =
    products_of_placed q m n t (ends_in m n rows) ch rows le a (complete_length q m n t rows c) (placed_rows q m n t [] rows rows refl c.each)

-- what products and hashes answer at the end of complete rows
unfoldable pub verdict : Memory → List Row → Products → Report
verdict m rows ps =
    cond (eqb ps.supplied ps.looked)
    (cond (eqb ps.written ps.read && eqb ps.enqueued ps.dequeued) (accepted m rows) (refused 10 (length rows + 3)))
    (refused 9 (length rows + 3))

-- of the file's lists they answer what the equations do
verdict_is_balance : (q : ℕ) (m : Memory) (n t : ℕ) (ch : Challenge) (rows : List Row) → 2 ≤ q
    → verdict m rows (products_of q ch (file_lists q m n t rows)) ≡ balance_report q m n t ch rows
unfolding verdict products_of balance_report range_balances memory_balances balanced hash
verdict_is_balance q m n t ch rows le = simp multiplied_product

-- and so do the running products
unfoldable pub closing : ℕ → Memory → ℕ → ℕ → Challenge → List Row → Report
closing q m n t ch rows = verdict m rows (products_of q ch (emitted q m n t [] rows))

pub closing_is_balance : (q : ℕ) (m : Memory) (n t : ℕ) (ch : Challenge) (rows : List Row) → 2 ≤ q → allowed m n t ≡ true → Complete q m n t [] rows
    → closing q m n t ch rows ≡ balance_report q m n t ch rows
unfolding closing
closing_is_balance q m n t ch rows le a c = ap (verdict m rows) (products_of_file q m n t ch rows le a c) ∙ verdict_is_balance q m n t ch rows le
