-- The cells of a stack, from the top down: the records that hold them, and the contents as the plain memory has them, from the bottom up.
-- Assumes nothing.
use Prim.Native.Nat.{ℕ, suc, ◌+◌}
use mathlib.Core.Path.{◌≡◌, refl, ap}
use mathlib.Core.Bool.{true, false}
use mathlib.Core.List.{List, [], ◌∷◌, ◌++◌}
use lib.ListN.{length}
use Rattle.algebra.specs.Multiset.{total}
use Rattle.memory.specs.declared.Row.{Row}
use Rattle.memory.specs.Content.{Content, same_content}
use Rattle.memory.specs.Equations.{Triple, triple, push_writes, pop_reads}
use Rattle.runs.specs.Plain.{pop, front, back, holds, fits, after}
use Rattle.runs.specs.Honest.{Cell, impossible}

-- the records of the cells: the height of a cell, its content and its time
unfoldable pub stack_records : List Cell → List Triple
stack_records [] = []
stack_records (c ∷ cells) = triple (suc (length cells)) c.content c.time ∷ stack_records cells

-- live cells and writes to come hold the same records as reads to come and ends
abbrev pub Balanced : ℕ → List Cell → ℕ → ℕ → List Row → List Triple → Type 0
Balanced q cells up down ops ends =
    (weight : Triple → ℕ)
    → total weight (stack_records cells) + total weight (push_writes q up down ops) ≡ total weight (pop_reads q up down ops) + total weight ends

-- the contents from the bottom up
unfoldable pub stacked : List Cell → List Content
stacked [] = []
stacked (c ∷ cells) = stacked cells ++ c.content ∷ []

-- a list with an entry at the back
front_added : (xs : List Content) (v : Content) → front (xs ++ v ∷ []) ≡ xs
unfolding front
front_added [] v = refl
front_added (x ∷ []) v = refl
front_added (x ∷ y ∷ ys) v = ap {B = List Content} (λ l. x ∷ l) (front_added (y ∷ ys) v)

back_added : (xs : List Content) (v : Content) → back (xs ++ v ∷ []) ≡ v
unfolding back
back_added [] v = refl
back_added (x ∷ []) v = refl
back_added (x ∷ y ∷ ys) v = back_added (y ∷ ys) v

holds_added : (xs : List Content) (v : Content) → holds (xs ++ v ∷ []) ≡ true
unfolding holds
holds_added [] v = refl
holds_added (x ∷ xs) v = refl

-- a pop fits just if its old is the content of the top, and takes the top off
pub pop_top : (c : Cell) (cells : List Cell) (o : Content) → fits (stacked (c ∷ cells)) (pop o) ≡ same_content o c.content
unfolding stacked fits
pop_top c cells o = simp (holds_added, back_added)

pub pop_after : (c : Cell) (cells : List Cell) (o : Content) → after (stacked (c ∷ cells)) (pop o) ≡ stacked cells
unfolding stacked after
pop_after c cells o = front_added (stacked cells) c.content

-- an executed pop is possible just if there is a cell
pub pop_possible : (c : Cell) (cells : List Cell) (o : Content) → impossible (stacked (c ∷ cells)) (pop o) ≡ 0
unfolding stacked impossible
pop_possible c cells o = simp holds_added

pub pop_impossible : (o : Content) → impossible (stacked []) (pop o) ≡ 12
unfolding stacked impossible holds
pop_impossible o = refl

pub pop_unfit : (o : Content) → fits (stacked []) (pop o) ≡ false
unfolding stacked fits holds
pop_unfit o = refl
