-- The place of the first equal element of a list.
--     first_at_lem        the element there is the one sought
--     first_low       no place before it holds the element sought
--     tree_finds, tree_key    the links of a set's words find that place
-- Assumes nothing.
use Prim.Native.Nat.{ℕ, zero, suc, ◌≤◌, ◌<◌}
use native.Mathlib.Omega.{arith}
use native.Mathlib.Decide.{ℕ_discrete}
use mathlib.Core.Bool.{Bool, true, false, cond}
use mathlib.Core.Path.{◌≡◌, refl, sym, ap, ◌∙◌}
use lib.Dec.{ltb}
use borrow.Author.Tests.{ltb-false}
use mathlib.Core.List.{List, [], ◌∷◌}
use lib.ListN.{length, get_or, take, replicate}
use lib.Seq.{get_or-take}
use Rattle.index.specs.Values.{values_in, first_at}
use Rattle.words.specs.Counts.{links_in}
use Rattle.std.specs.Prelude.{None, Some, unwrap_or}
use Rattle.index.specs.Tree.{found, found_at, grown}
use Rattle.index.proofs.Places.{first_here, first_later}
use Rattle.index.proofs.Links.{found_linked}
use Rattle.index.proofs.Search.{search_finds_first}
use Rattle.filler.specs.Words.{TreeIn}
use Rattle.filler.proofs.Inputs.{values_count}

first_none : (x : ℕ) → first_at x [] ≡ 0
unfolding first_at
first_none x = refl

pub first_at_lem : (x : ℕ) (ys : List ℕ) → first_at x ys < length ys → get_or ys (first_at x ys) 0 ≡ x
first_at_lem x [] h = absurd (omega arith)
first_at_lem x (y ∷ ys) h = go (ℕ_discrete x y) (first_at_lem x ys)
  where
    go : Dec (x ≡ y) → (first_at x ys < length ys → get_or ys (first_at x ys) 0 ≡ x) → get_or (y ∷ ys) (first_at x (y ∷ ys)) 0 ≡ x
    go (yes e) ih = ap (λ (n : ℕ). get_or (y ∷ ys) n 0) (first_here x y ys e) ∙ sym e
    go (no n) ih = let l = first_later x y ys n in ap (λ (i : ℕ). get_or (y ∷ ys) i 0) l ∙ ih (omega arith)

pub first_low : (x : ℕ) (ys : List ℕ) (j : ℕ) → j < length ys → get_or ys j 0 ≡ x → first_at x ys ≤ j
first_low x [] j h e = absurd (omega arith)
first_low x (y ∷ ys) zero h e = omega (arith, first_here x y ys (sym e))
first_low x (y ∷ ys) (suc j) h e = go (ℕ_discrete x y) (first_low x ys j (omega arith) e)
  where
    go : Dec (x ≡ y) → first_at x ys ≤ j → first_at x (y ∷ ys) ≤ suc j
    go (yes q) ih = omega (arith, first_here x y ys q)
    go (no n) ih = omega (arith, first_later x y ys n)

pub tree_finds : (x w : ℕ) (inits s : List ℕ) → TreeIn w inits s → found x (values_in inits) (take w s) ≡ first_at x (values_in inits)
tree_finds x w inits s t =
    let many : length (values_in inits) ≡ w = values_count inits w t.held in
    found_linked (values_in inits) (take w s) (grown (values_in inits) (replicate w 0)) (λ j h. ap links_in (get_or-take w s j 0 (omega arith)) ∙ t.links j (omega arith)) x
    ∙ ap (λ (n : ℕ). found x (values_in inits) (grown (values_in inits) (replicate n 0))) (sym many)
    ∙ search_finds_first x (values_in inits) (omega (arith, many, t.few))

-- no place is past the end
first_at_end : (x : ℕ) (ys : List ℕ) → first_at x ys ≤ length ys
first_at_end x [] = omega (arith, first_none x)
first_at_end x (y ∷ ys) = go (ℕ_discrete x y) (first_at_end x ys)
  where
    go : Dec (x ≡ y) → first_at x ys ≤ length ys → first_at x (y ∷ ys) ≤ suc (length ys)
    go (yes q) ih = omega (arith, first_here x y ys q)
    go (no n) ih = omega (arith, first_later x y ys n)

pub tree_key : (x w : ℕ) (inits s : List ℕ) → TreeIn w inits s → unwrap_or (found_at x (values_in inits) (take w s)) w ≡ first_at x (values_in inits)
tree_key x w inits s t = go (ltb (found x (values_in inits) (take w s)) (length (values_in inits))) refl
  where
    go : (b : Bool) → ltb (found x (values_in inits) (take w s)) (length (values_in inits)) ≡ b
        → unwrap_or (cond b (Some (found x (values_in inits) (take w s))) None) w ≡ first_at x (values_in inits)
    go true e = tree_finds x w inits s t
    go false e =
        omega (arith, first_at_end x (values_in inits), tree_finds x w inits s t, ltb-false (found x (values_in inits) (take w s)) (length (values_in inits)) e, values_count inits w t.held)
