-- Rows whose numbers are below q, and the fault of a line that reads as no row.
-- Assumes nothing.
use Prim.Native.Nat.{ℕ, zero, suc, ◌<◌}
use mathlib.Core.Path.{◌≡◌, refl}
use mathlib.Core.Logic.{◌≢◌}
use mathlib.Core.Bool.{Bool, true, false, ◌&&◌, ◌||◌, cond, false≢true, true≢false}
use mathlib.Core.List.{List, [], ◌∷◌, ◌++◌}
use native.Mathlib.Omega.{arith}
use lib.Dec.{eqb, ltb}
use lib.ListN.{take, drop}
use borrow.Author.Tests.{ltb-true, lt-ltb}
use Rattle.memory.specs.declared.Memory.{Memory}
use Rattle.memory.specs.declared.Row.{Row}
use Rattle.memory.specs.Bytes.{all_below}
use Rattle.memory.specs.Content.{number_of}
use Rattle.memory.specs.Rows.{formed, row_below, unread_fault}
use Rattle.memory.proofs.Content.{Single, ContentBelow}

-- the numbers of a row are below q, and its contents nothing but their numbers
abbrev pub RowBelow : ℕ → Row → Type 0
RowBelow q row = (row.guard < q) × (row.addr < q) × ContentBelow q row.value × ContentBelow q row.old × (row.time < q) × (row.version < q)

-- the contents of a row are nothing but their numbers
abbrev pub SingleRow : Row → Type 0
SingleRow row = Single row.value × Single row.old

abbrev pub SingleRows : List Row → Type 0
SingleRows [] = Unit {0}
SingleRows (row ∷ rows) = SingleRow row × SingleRows rows

-- the same of every row of a list
abbrev pub RowsBelow : ℕ → List Row → Type 0
RowsBelow q [] = Unit {0}
RowsBelow q (row ∷ rows) = RowBelow q row × RowsBelow q rows

-- such rows have contents of one number
pub below_single : (q : ℕ) (rows : List Row) → RowsBelow q rows → SingleRows rows
below_single q [] b = tt
below_single q (row ∷ rows) b = ((b.0.2.1, b.0.3.1), below_single q rows b.1)

-- the rows of two lists
pub single_split : (xs ys : List Row) → SingleRows (xs ++ ys) → SingleRows xs × SingleRows ys
single_split [] ys s = (tt, s)
single_split (x ∷ xs) ys s = let rest = single_split xs ys s.1 in ((s.0, rest.0), rest.1)

-- a part of a list of such rows
pub single_taken : (k : ℕ) (rows : List Row) → SingleRows rows → SingleRows (take k rows)
single_taken zero rows s = tt
single_taken (suc k) [] s = tt
single_taken (suc k) (row ∷ rows) s = (s.0, single_taken k rows s.1)

pub single_dropped : (k : ℕ) (rows : List Row) → SingleRows rows → SingleRows (drop k rows)
single_dropped zero rows s = s
single_dropped (suc k) [] s = tt
single_dropped (suc k) (row ∷ rows) s = single_dropped k rows s.1

-- a row that has its form has such contents
pub formed_single : (m : Memory) (row : Row) → formed m row ≡ true → SingleRow row
formed_single m row e = (refl, refl)

-- the conjuncts of a test that passes
pub both_pass : (a b : Bool) → (a && b) ≡ true → (a ≡ true) × (b ≡ true)
both_pass true b e = (refl, e)
both_pass false b e = absurd (false≢true e)

-- and the disjuncts of a test that fails
pub neither_passes : (a b : Bool) → (a || b) ≡ false → (a ≡ false) × (b ≡ false)
neither_passes true b e = absurd (true≢false e)
neither_passes false b e = (refl, e)

-- the fault of a line that reads as no row is not 0
pub fault_not_zero : (f : ℕ) → ◌≢◌ {A = ℕ} (unread_fault f) 0
fault_not_zero f e = pick (eqb f 3) e
  where
    pick : (b : Bool) → ◌≡◌ {A = ℕ} (cond b 3 2) 0 → ⊥
    pick true h = omega arith
    pick false h = omega arith

-- the test of a row's numbers, where it passes and the contents are nothing but their numbers
pub row_below_lem : (q : ℕ) (row : Row) → SingleRow row → row_below q row ≡ true → RowBelow q row
unfolding row_below all_below
row_below_lem q row single h =
    let g = both_pass (ltb row.guard q) _ h in
    let a = both_pass (ltb row.addr q) _ g.1 in
    let v = both_pass (ltb (number_of row.value) q) _ a.1 in
    let o = both_pass (ltb (number_of row.old) q) _ v.1 in
    let t = both_pass (ltb row.time q) _ o.1 in
    let n = both_pass (ltb row.version q) _ t.1 in (
      ltb-true _ q g.0,
      ltb-true _ q a.0,
      (ltb-true _ q v.0, single.0),
      (ltb-true _ q o.0, single.1),
      ltb-true _ q t.0,
      ltb-true _ q n.0,
    )

-- and the other way round
pub below_row : (q : ℕ) (row : Row) → RowBelow q row → row_below q row ≡ true
unfolding row_below all_below
below_row q row b =
    rw (lt-ltb _ q b.0, lt-ltb _ q b.1, lt-ltb _ q b.2.0, lt-ltb _ q b.3.0, lt-ltb _ q b.4, lt-ltb _ q b.5)

-- a part of a list of such rows
pub taken_below : (q k : ℕ) (rows : List Row) → RowsBelow q rows → RowsBelow q (take k rows)
taken_below q zero rows h = tt
taken_below q (suc k) [] h = tt
taken_below q (suc k) (row ∷ rows) h = (h.0, taken_below q k rows h.1)

-- and without the first k
pub dropped_below : (q k : ℕ) (rows : List Row) → RowsBelow q rows → RowsBelow q (drop k rows)
dropped_below q zero rows h = h
dropped_below q (suc k) [] h = tt
dropped_below q (suc k) (row ∷ rows) h = dropped_below q k rows h.1

-- both parts of a list of such rows
pub split_below : (q : ℕ) (xs ys : List Row) → RowsBelow q (xs ++ ys) → RowsBelow q xs × RowsBelow q ys
split_below q [] ys h = (tt, h)
split_below q (x ∷ xs) ys h = let rest = split_below q xs ys h.1 in ((h.0, rest.0), rest.1)

-- a choice whose value is k where the other branch is not
pub chosen_first : (k : ℕ) (b : Bool) (x y : ℕ) → y ≢ k → cond b x y ≡ k → (b ≡ true) × (x ≡ k)
chosen_first k true x y ne e = (refl, e)
chosen_first k false x y ne e = absurd (ne e)

-- the same of 0
pub chosen_zero : (b : Bool) (x y : ℕ) → y ≢ 0 → cond b x y ≡ 0 → (b ≡ true) × (x ≡ 0)
chosen_zero = chosen_first 0
