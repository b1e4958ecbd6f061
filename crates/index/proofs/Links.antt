-- Words that hold the same links each are the same tree, whatever stands above them.
--     found_linked    a search finds the same in both
--     grown_low       in the words of a grown tree nothing stands above the links
-- Assumes nothing.
use Prim.Native.Nat.{ℕ, zero, suc, ◌+◌, ◌*◌, ◌/◌, ◌%◌, ◌<◌}
use native.Mathlib.Omega.{arith}
use mathlib.Core.Bool.{Bool, true, false, cond, ◌&&◌}
use mathlib.Core.Path.{◌≡◌, refl, sym, ap, ◌∙◌}
use mathlib.Core.List.{List, [], ◌∷◌}
use lib.Dec.{eqb, ltb}
use lib.ListN.{length, get_or, set}
use borrow.Author.Tests.{ltb-true}
use Rattle.memory.specs.Rows.{limit}
use Rattle.words.specs.Counts.{lookup, links_in}
use Rattle.index.specs.declared.Stop.{Stop}
use Rattle.index.specs.Tree.{side_of, joined, child_at, stop_at, walked, stop_of, found, inserted, grown_from, grown}

-- a side of a word is one of its two links
side_linked : (key word : ℕ) → side_of key (links_in word) ≡ side_of key word
unfolding side_of links_in lookup limit
side_linked key word = go (eqb (key % 2) 0)
  where
    go : (b : Bool) → cond b (word % (65536 * 65536) / 65536 % 65536) (word % (65536 * 65536) % 65536) ≡ cond b (word / 65536 % 65536) (word % 65536)
    go true = omega arith
    go false = omega arith

-- a child is one of the n nodes
child_low : (n : ℕ) (links : List ℕ) (node key : ℕ) → node < n → child_at n links node key < n
unfolding child_at
child_low n links node key h = go (ltb node c) (ltb c n) refl
  where
    c : ℕ
    c = side_of key (get_or links node 0)

    go : (a b : Bool) → ltb c n ≡ b → cond (a && b) c 0 < n
    go true true e = ltb-true c n e
    go true false e = omega arith
    go false b e = omega arith

module _ (values links links' : List ℕ) (same : (j : ℕ) → j < length values → links_in (get_or links j 0) ≡ links_in (get_or links' j 0)) where
  child_linked : (node key : ℕ) → node < length values → child_at (length values) links node key ≡ child_at (length values) links' node key
  unfolding child_at
  child_linked node key h =
      ap (λ (c : ℕ). cond (ltb node c && ltb c (length values)) c 0)
      (sym (side_linked key (get_or links node 0)) ∙ ap (side_of key) (same node h) ∙ side_linked key (get_or links' node 0))

  walked_linked : (f x key node : ℕ) → node < length values → walked f values links x key node ≡ walked f values links' x key node
  unfolding walked
  walked_linked zero x key node h = refl
  walked_linked (suc f) x key node h =
      let c : ℕ = child_at (length values) links node key in
      ap (λ (r : Stop). cond (eqb (get_or values node 0) x) (stop_at node key) (cond (eqb c 0) (stop_at node key) r))
      (walked_linked f x (key / 2) c (child_low (length values) links node key h))
      ∙ ap (λ (d : ℕ). cond (eqb (get_or values node 0) x) (stop_at node key) (cond (eqb d 0) (stop_at node key) (walked f values links' x (key / 2) d)))
      (child_linked node key h)

  stop_linked : (x : ℕ) → stop_of x values links ≡ stop_of x values links'
  unfolding stop_of
  stop_linked x = go (length values) refl
    where
      go : (n : ℕ) → length values ≡ n → walked n values links x x 0 ≡ walked n values links' x x 0
      go zero e = unfold walked in refl
      go (suc n) e = walked_linked (suc n) x x 0 (omega arith)

  pub found_linked : (x : ℕ) → found x values links ≡ found x values links'
  unfolding found
  found_linked x = ap (λ (s : Stop). cond (eqb (get_or values s.node 0) x) s.node (length values)) (stop_linked x)

-- in the words of a list nothing stands above the links
abbrev Low : List ℕ → Type 0
Low links = (j : ℕ) → get_or links j 0 < lookup

set_low : (links : List ℕ) (i v : ℕ) → Low links → v < lookup → Low (set links i v)
set_low [] i v low h j = low j
set_low (x ∷ links) zero v low h zero = h
set_low (x ∷ links) zero v low h (suc j) = low (suc j)
set_low (x ∷ links) (suc i) v low h zero = low 0
set_low (x ∷ links) (suc i) v low h (suc j) = set_low links i v (λ k. low (suc k)) h j

joined_low : (key word k : ℕ) → joined key word k < lookup
unfolding joined lookup limit
joined_low key word k = go (eqb (key % 2) 0)
  where
    go : (b : Bool) → cond b (k % 65536 * 65536 + word % 65536) (word / 65536 % 65536 * 65536 + k % 65536) < 65536 * 65536
    go true = omega arith
    go false = omega arith

inserted_low : (values links : List ℕ) (k : ℕ) → Low links → Low (inserted values links k)
unfolding inserted
inserted_low values links k low = go (eqb (get_or values s.node 0) (get_or values k 0))
  where
    s : Stop
    s = stop_of (get_or values k 0) values links

    go : (b : Bool) → Low (cond b links (set links s.node (joined s.key (get_or links s.node 0) k)))
    go true = low
    go false = set_low links s.node (joined s.key (get_or links s.node 0) k) low (joined_low s.key (get_or links s.node 0) k)

grown_from_low : (values : List ℕ) (k c : ℕ) (links : List ℕ) → Low links → Low (grown_from values k c links)
unfolding grown_from
grown_from_low values k zero links low = low
grown_from_low values k (suc c) links low = grown_from_low values (suc k) c (inserted values links k) (inserted_low values links k low)

pub grown_low : (values links : List ℕ) → Low links → (j : ℕ) → get_or (grown values links) j 0 < lookup
unfolding grown
grown_low values links low = grown_from_low values 1 _ links low
