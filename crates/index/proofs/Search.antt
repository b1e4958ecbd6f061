-- A search in the tree over values finds the first place of what it looks for.
--     child_some      what a child is as an option
--     walked_met, walked_end, walked_on   a step of a search
--     way_begins, way_met, way_ended, way_further     a search that is on its way
--     stop_low        a search ends at a node that was put in
--     stop_none       where it does not find its value there is no child
--     detoured        what a node more changes: a search that ended where it was put goes on to it
--     grown_more      one node more
--     search_finds_first
-- Assumes nothing.
use Prim.Native.Nat.{ℕ, zero, suc, ◌+◌, ◌-◌, ◌/◌, ◌%◌, ◌≤◌, ◌<◌}
use native.Mathlib.Omega.{arith}
use native.Mathlib.Decide.{ℕ_discrete}
use mathlib.Core.Bool.{Bool, true, false, ◌&&◌, cond}
use mathlib.Core.Logic.{◌⊎◌, inl, inr}
use mathlib.Core.Path.{◌≡◌, refl, sym, ap, subst, ◌∙◌}
use mathlib.Core.List.{List, [], ◌∷◌}
use lib.Dec.{eqb, ltb}
use lib.ListN.{length, get_or, set, take, replicate, length-set, length-replicate}
use lib.Seq.{take-length, get_or-set_same, get_or-set_other}
use borrow.Author.Tests.{eq-eqb, ne_eqb, eqb-true, eqb-false, lt-ltb, ltb-true}
use Rattle.std.specs.Prelude.{None, Some}
use Rattle.memory.specs.Rows.{limit}
use Rattle.index.specs.declared.Stop.{Stop}
use Rattle.index.specs.Values.{first_at}
use Rattle.index.specs.Tree.{side_of, joined, child_at, child_of, stop_at, walked, stop_of, found, inserted, grown_from, grown}
use Rattle.index.specs.Statements.{SearchFindsFirst}
use Rattle.index.proofs.Places.{first_here, first_later, first_kept, first_met, first_absent}
use Rattle.index.proofs.Sides.{side_put, side_kept, side_none, side_same}

-- ---- a child

-- by the child in the node's word
pub child_is : (n : ℕ) (links : List ℕ) (node key c : ℕ) → side_of key (get_or links node 0) ≡ c → node < c → c < n → child_at n links node key ≡ c
unfolding child_at
child_is n links node key c e above below =
    ap (λ (x : ℕ). cond (ltb node x && ltb x n) x 0) e
    ∙ ap (λ (b : Bool). cond (b && ltb c n) c 0) (lt-ltb node c above)
    ∙ ap (λ (b : Bool). cond b c 0) (lt-ltb c n below)

child_as : (n : ℕ) (links links' : List ℕ) (node key key' : ℕ) → side_of key (get_or links node 0) ≡ side_of key' (get_or links' node 0) → child_at n links node key ≡ child_at n links' node key'
unfolding child_at
child_as n links links' node key key' e = ap (λ (x : ℕ). cond (ltb node x && ltb x n) x 0) e

pub child_range : (n : ℕ) (links : List ℕ) (node key : ℕ) → (child_at n links node key ≡ 0 → ⊥) → (node < child_at n links node key) × (child_at n links node key < n)
unfolding child_at
child_range n links node key = go (ltb node c) (ltb c n) refl refl
  where
    c : ℕ
    c = side_of key (get_or links node 0)

    go : (b d : Bool) → ltb node c ≡ b → ltb c n ≡ d → (cond (b && d) c 0 ≡ 0 → ⊥) → (node < cond (b && d) c 0) × (cond (b && d) c 0 < n)
    go true true p q h = (ltb-true _ _ p, ltb-true _ _ q)
    go true false p q h = absurd (h refl)
    go false d p q h = absurd (h refl)

-- the child as an option
module _ (n : ℕ) (links : List ℕ) (node key : ℕ) where
  child_none : None ≡ child_of n links node key → child_at n links node key ≡ 0
  child_none = go (eqb (child_at n links node key) 0) refl
    where
      go : (b : Bool) → eqb (child_at n links node key) 0 ≡ b → None ≡ cond b None (Some (child_at n links node key)) → child_at n links node key ≡ 0
      go true p e = eqb-true _ _ p
      go false p e = cc

  pub child_some : (next : ℕ) → Some next ≡ child_of n links node key → (child_at n links node key ≡ next) × (node < next) × (next < n)
  child_some next = go (eqb (child_at n links node key) 0) refl
    where
      go : (b : Bool) → eqb (child_at n links node key) 0 ≡ b → Some next ≡ cond b None (Some (child_at n links node key))
          → (child_at n links node key ≡ next) × (node < next) × (next < n)
      go true p e = absurd (cc)
      go false p e =
          let r = child_range n links node key (eqb-false _ _ p) in
          let is : child_at n links node key ≡ next = cc in
          (is, omega arith, omega arith)

-- ---- a step of a search

module _ (values links : List ℕ) (x : ℕ) where
  abbrev next : ℕ → ℕ → ℕ
  next node key = child_at (length values) links node key

  pub walked_met : (f key node : ℕ) → get_or values node 0 ≡ x → walked f values links x key node ≡ stop_at node key
  unfolding walked
  walked_met zero key node e = refl
  walked_met (suc f) key node e =
      ap (λ (b : Bool). cond b (stop_at node key) (cond (eqb (next node key) 0) (stop_at node key) (walked f values links x (key / 2) (next node key)))) (eq-eqb _ _ e)

  pub walked_end : (f key node : ℕ) → next node key ≡ 0 → walked f values links x key node ≡ stop_at node key
  unfolding walked
  walked_end zero key node e = refl
  walked_end (suc f) key node e =
      ap (λ (b : Bool). cond (eqb (get_or values node 0) x) (stop_at node key) (cond b (stop_at node key) (walked f values links x (key / 2) (next node key)))) (eq-eqb _ _ e)
      ∙ both (eqb (get_or values node 0) x)
    where
      both : (b : Bool) → cond b (stop_at node key) (stop_at node key) ≡ stop_at node key
      both true = refl
      both false = refl

  pub walked_on : (f key node : ℕ) → (get_or values node 0 ≡ x → ⊥) → (next node key ≡ 0 → ⊥) → walked (suc f) values links x key node ≡ walked f values links x (key / 2) (next node key)
  unfolding walked
  walked_on f key node n m =
      ap (λ (b : Bool). cond b (stop_at node key) (cond (eqb (next node key) 0) (stop_at node key) (walked f values links x (key / 2) (next node key)))) (ne_eqb _ _ n)
      ∙ ap (λ (b : Bool). cond b (stop_at node key) (walked f values links x (key / 2) (next node key))) (ne_eqb _ _ m)

  -- a property of every node on the way
  pub stop_low : (k : ℕ) → ((node key : ℕ) → next node key < k) → (f key node : ℕ) → node < k → (walked f values links x key node).node < k
  unfolding walked stop_at
  stop_low k bound zero key node h = h
  stop_low k bound (suc f) key node h = go (eqb (get_or values node 0) x) (eqb (next node key) 0) (stop_low k bound f (key / 2) (next node key) (bound node key))
    where
      go : (b d : Bool) → (walked f values links x (key / 2) (next node key)).node < k
          → (cond b (stop_at node key) (cond d (stop_at node key) (walked f values links x (key / 2) (next node key)))).node < k
      go true d ih = h
      go false true ih = h
      go false false ih = ih

  pub stop_none : (f key node : ℕ) → node < length values → length values ≤ f + node
      → let s = walked f values links x key node in (get_or values s.node 0 ≡ x → ⊥) → next s.node s.key ≡ 0
  unfolding stop_at
  stop_none zero key node low fuel = absurd (omega arith)
  stop_none (suc f) key node low fuel = go (ℕ_discrete (get_or values node 0) x) (ℕ_discrete (next node key) 0) (stop_none f (key / 2) (next node key))
    where
      P : Stop → Type 0
      P s = (get_or values s.node 0 ≡ x → ⊥) → next s.node s.key ≡ 0

      go : Dec (get_or values node 0 ≡ x) → Dec (next node key ≡ 0)
          → (next node key < length values → length values ≤ f + next node key → P (walked f values links x (key / 2) (next node key)))
          → P (walked (suc f) values links x key node)
      go (yes e) d ih = subst P (sym (walked_met (suc f) key node e)) (λ n. absurd (n e))
      go (no n) (yes e) ih = subst P (sym (walked_end (suc f) key node e)) (λ m. e)
      go (no n) (no m) ih =
          let r = child_range (length values) links node key m in
          subst P (sym (walked_on f key node n m)) (ih r.1 (omega arith))

-- the search from the root is that from a node on the way, with steps enough left
pub record OnTheWay (values links : List ℕ) (x node key : ℕ) : Type 0 where
  pub left : ℕ
  pub enough : length values ≤ left + node
  pub same : stop_of x values links ≡ walked left values links x key node

pub way_begins : (values links : List ℕ) (x : ℕ) → OnTheWay values links x 0 x
unfolding stop_of
way_begins values links x = record { left = length values; enough = omega arith; same = refl }

pub way_met : (values links : List ℕ) (x node key : ℕ) → OnTheWay values links x node key → get_or values node 0 ≡ x → record { node = node; key = key } ≡ stop_of x values links
unfolding stop_at
way_met values links x node key way e = sym (way.same ∙ walked_met values links x way.left key node e)

pub way_ended : (values links : List ℕ) (x node key : ℕ) → OnTheWay values links x node key → None ≡ child_of (length values) links node key → record { node = node; key = key } ≡ stop_of x values links
unfolding stop_at
way_ended values links x node key way e =
    sym (way.same ∙ walked_end values links x way.left key node (child_none (length values) links node key e))

pub way_further : (values links : List ℕ) (x node key next : ℕ) → OnTheWay values links x node key → (get_or values node 0 ≡ x → ⊥) → Some next ≡ child_of (length values) links node key → OnTheWay values links x next (key / 2)
way_further values links x node key next way other e = go way.left way.enough way.same
  where
    child : (child_at (length values) links node key ≡ next) × (node < next) × (next < length values)
    child = child_some (length values) links node key next e

    go : (left : ℕ) → length values ≤ left + node → stop_of x values links ≡ walked left values links x key node → OnTheWay values links x next (key / 2)
    go zero enough same = let r = child in absurd (omega arith)
    go (suc f) enough same =
        let r = child in
        record { left = f; enough = omega arith; same = same ∙ walked_on values links x f key node other (λ z. omega arith) ∙ ap (walked f values links x (key / 2)) r.0 }

-- ---- a node more

-- where the search for the value of node k ends, and the words with node k put there
abbrev ended : List ℕ → List ℕ → ℕ → Stop
ended values links k = stop_of (get_or values k 0) values links

abbrev put : List ℕ → List ℕ → ℕ → List ℕ
put values links k = set links (ended values links k).node (joined (ended values links k).key (get_or links (ended values links k).node 0) k)

-- a node and a key that name the side on which node k is put
record Slot (values links : List ℕ) (k node key : ℕ) : Type 0 where
  there : node ≡ (ended values links k).node
  side : key % 2 ≡ (ended values links k).key % 2

-- a search that ended where node k is put goes on to it; every other search ends where it did
abbrev Detoured : List ℕ → List ℕ → ℕ → ℕ → Stop → Stop → Type 0
Detoured values links k x r r' =
    ((get_or values r.node 0 ≡ x → ⊥) × (r'.node ≡ k))
    ⊎ (((get_or values r.node 0 ≡ x → ⊥) → Slot values links k r.node r.key → ⊥) × (r'.node ≡ r.node))

-- node k is put where the search for its value ended without finding it
module _ (values links : List ℕ) (k : ℕ) (few : length values ≤ limit) (inside : k < length values) (long : length links ≡ length values) (bound : (node key : ℕ) → child_at (length values) links node key < k) (new : get_or values (ended values links k).node 0 ≡ get_or values k 0 → ⊥) where
  abbrev end : Stop
  end = ended values links k

  abbrev next_in : List ℕ → ℕ → ℕ → ℕ
  next_in ls node key = child_at (length values) ls node key

  end_low : end.node < k
  unfolding stop_of
  end_low = stop_low values links (get_or values k 0) k bound (length values) (get_or values k 0) 0 (let b = bound 0 0 in omega arith)

  end_none : next_in links end.node end.key ≡ 0
  unfolding stop_of
  end_none = stop_none values links (get_or values k 0) (length values) (get_or values k 0) 0 (omega arith) (omega arith) new

  slot? : (node key : ℕ) → Dec (Slot values links k node key)
  slot? node key = go (ℕ_discrete node end.node) (ℕ_discrete (key % 2) (end.key % 2))
    where
      go : Dec (node ≡ end.node) → Dec (key % 2 ≡ end.key % 2) → Dec (Slot values links k node key)
      go (yes a) (yes b) = yes (record { there = a; side = b })
      go (yes a) (no b) = no (λ s. b s.side)
      go (no a) d = no (λ s. a s.there)

  slot_none : (node key : ℕ) → Slot values links k node key → next_in links node key ≡ 0
  slot_none node key s =
      ap (λ (j : ℕ). next_in links j key) s.there
      ∙ child_as (length values) links links end.node key end.key (side_same key end.key (get_or links end.node 0) s.side)
      ∙ end_none

  -- the word that changes
  put_word : get_or (put values links k) end.node 0 ≡ joined end.key (get_or links end.node 0) k
  put_word = let l = end_low in get_or-set_same links end.node _ 0 (omega arith)

  slot_child : (node key : ℕ) → Slot values links k node key → next_in (put values links k) node key ≡ k
  slot_child node key s =
      let l = end_low in
      let e = s.there in
      child_is (length values) (put values links k) node key k
      (ap (λ (j : ℕ). side_of key (get_or (put values links k) j 0)) s.there
      ∙ ap (side_of key) put_word
      ∙ side_put key end.key (get_or links end.node 0) k s.side (omega arith))
      (omega arith)
      inside

  other_child : (node key : ℕ) → (Slot values links k node key → ⊥) → next_in (put values links k) node key ≡ next_in links node key
  other_child node key n = child_as (length values) (put values links k) links node key key (go (ℕ_discrete node end.node))
    where
      go : Dec (node ≡ end.node) → side_of key (get_or (put values links k) node 0) ≡ side_of key (get_or links node 0)
      go (yes e) =
          ap (λ (j : ℕ). side_of key (get_or (put values links k) j 0)) e
          ∙ ap (side_of key) put_word
          ∙ side_kept key end.key (get_or links end.node 0) k (λ q. n (record { there = e; side = q }))
          ∙ ap (λ (j : ℕ). side_of key (get_or links j 0)) (sym e)
      go (no m) = ap (side_of key) (get_or-set_other links end.node node _ 0 m)

  -- node k has no child yet
  leaf : (key : ℕ) → next_in (put values links k) k key ≡ 0
  leaf key = other_child k key (λ s. let e = s.there in let l = end_low in omega arith) ∙ go (ℕ_discrete (next_in links k key) 0)
    where
      go : Dec (next_in links k key ≡ 0) → next_in links k key ≡ 0
      go (yes e) = e
      go (no n) = let r = child_range (length values) links k key n in let b = bound k key in absurd (omega arith)

  bound_more : (node key : ℕ) → next_in (put values links k) node key < suc k
  bound_more node key = go (slot? node key)
    where
      go : Dec (Slot values links k node key) → next_in (put values links k) node key < suc k
      go (yes s) = omega (arith, slot_child node key s)
      go (no n) = omega (arith, other_child node key n, bound node key)

  detoured : (x f key node : ℕ) → node < length values → length values ≤ f + node
      → Detoured values links k x (walked f values links x key node) (walked f values (put values links k) x key node)
  unfolding stop_at
  detoured x zero key node low fuel = absurd (omega arith)
  detoured x (suc f) key node low fuel = go (ℕ_discrete (get_or values node 0) x) (ℕ_discrete (next_in links node key) 0) (slot? node key) (detoured x f (key / 2) (next_in links node key))
    where
      via : (r r' : Stop) → walked (suc f) values links x key node ≡ r → walked (suc f) values (put values links k) x key node ≡ r' → Detoured values links k x r r'
          → Detoured values links k x (walked (suc f) values links x key node) (walked (suc f) values (put values links k) x key node)
      via r r' p q d = subst (λ (s : Stop). Detoured values links k x s (walked (suc f) values (put values links k) x key node)) (sym p) (subst (λ (s : Stop). Detoured values links k x r s) (sym q) d)

      go : Dec (get_or values node 0 ≡ x) → Dec (next_in links node key ≡ 0) → Dec (Slot values links k node key)
          → (next_in links node key < length values → length values ≤ f + next_in links node key → Detoured values links k x (walked f values links x (key / 2) (next_in links node key)) (walked f values (put values links k) x (key / 2) (next_in links node key)))
          → Detoured values links k x (walked (suc f) values links x key node) (walked (suc f) values (put values links k) x key node)
      go (yes e) d s ih =
          via (stop_at node key) (stop_at node key) (walked_met values links x (suc f) key node e) (walked_met values (put values links k) x (suc f) key node e)
          (inr ((λ n t. n e), refl))
      go (no n) (no m) (yes s) ih = absurd (m (slot_none node key s))
      go (no n) (no m) (no s) ih =
          let r = child_range (length values) links node key m in
          let same : next_in (put values links k) node key ≡ next_in links node key = other_child node key s in
          via (walked f values links x (key / 2) (next_in links node key)) (walked f values (put values links k) x (key / 2) (next_in links node key))
          (walked_on values links x f key node n m)
          (walked_on values (put values links k) x f key node n (λ e. m (sym same ∙ e)) ∙ ap (walked f values (put values links k) x (key / 2)) same)
          (ih r.1 (omega arith))
      go (no n) (yes e) (yes s) ih =
          let to : next_in (put values links k) node key ≡ k = slot_child node key s in
          via (stop_at node key) (stop_at k (key / 2))
          (walked_end values links x (suc f) key node e)
          (walked_on values (put values links k) x f key node n (λ z. let l = end_low in omega arith) ∙ ap (walked f values (put values links k) x (key / 2)) to ∙ walked_end values (put values links k) x f (key / 2) k (leaf (key / 2)))
          (inl (n, refl))
      go (no n) (yes e) (no s) ih =
          via (stop_at node key) (stop_at node key)
          (walked_end values links x (suc f) key node e)
          (walked_end values (put values links k) x (suc f) key node (other_child node key s ∙ e))
          (inr ((λ m t. s t), refl))

-- ---- all nodes

-- a tree over the first k values: a search finds the first place among them
record Grown (values : List ℕ) (k : ℕ) (links : List ℕ) : Type 0 where
  long : length links ≡ length values
  bound : (node key : ℕ) → child_at (length values) links node key < k
  met : (x : ℕ) → get_or values (stop_of x values links).node 0 ≡ x → (stop_of x values links).node ≡ first_at x (take k values)
  absent : (x : ℕ) → (get_or values (stop_of x values links).node 0 ≡ x → ⊥) → first_at x (take k values) ≡ k

module _ (values links : List ℕ) (k : ℕ) (few : length values ≤ limit) (inside : k < length values) (g : Grown values k links) where
  low : (x : ℕ) → (stop_of x values links).node < k
  unfolding stop_of
  low x = stop_low values links x k g.bound (length values) x 0 (let b = g.bound 0 0 in omega arith)

  -- a value found among the first k is found there among one more
  kept : (x : ℕ) → get_or values (stop_of x values links).node 0 ≡ x → (stop_of x values links).node ≡ first_at x (take (suc k) values)
  kept x e = let m = g.met x e in let l = low x in m ∙ sym (first_kept x k values inside (omega arith))

  more_old : get_or values (ended values links k).node 0 ≡ get_or values k 0 → Grown values (suc k) links
  more_old old = record {
    long = g.long;
    bound = λ node key. (let b = g.bound node key in omega arith);
    met = kept;
    absent = λ x n. first_absent x k values inside (g.absent x n) (λ e. n (subst (λ (z : ℕ). get_or values (stop_of z values links).node 0 ≡ z) (sym e) old));
  }

  detour : (get_or values (ended values links k).node 0 ≡ get_or values k 0 → ⊥) → (x : ℕ) → Detoured values links k x (stop_of x values links) (stop_of x values (put values links k))
  unfolding stop_of
  detour new x = detoured values links k few inside g.long g.bound new x (length values) x 0 (omega arith) (omega arith)

  more_new : (get_or values (ended values links k).node 0 ≡ get_or values k 0 → ⊥) → Grown values (suc k) (put values links k)
  more_new new = record {
    long = length-set links (ended values links k).node _ ∙ g.long;
    bound = bound_more values links k few inside g.long g.bound new;
    met = λ x e. met' x e (detour new x);
    absent = λ x n. absent' x n (detour new x);
  }
    where
      met' : (x : ℕ) → get_or values (stop_of x values (put values links k)).node 0 ≡ x → Detoured values links k x (stop_of x values links) (stop_of x values (put values links k))
          → (stop_of x values (put values links k)).node ≡ first_at x (take (suc k) values)
      met' x e (inl (n, to)) = to ∙ sym (first_met x k values inside (g.absent x n) (sym e ∙ ap (λ (j : ℕ). get_or values j 0) to))
      met' x e (inr (s, to)) = to ∙ kept x (ap (λ (j : ℕ). get_or values j 0) (sym to) ∙ e)

      absent' : (x : ℕ) → (get_or values (stop_of x values (put values links k)).node 0 ≡ x → ⊥) → Detoured values links k x (stop_of x values links) (stop_of x values (put values links k))
          → first_at x (take (suc k) values) ≡ suc k
      absent' x m (inl (n, to)) = first_absent x k values inside (g.absent x n) (λ e. m (ap (λ (j : ℕ). get_or values j 0) to ∙ sym e))
      absent' x m (inr (s, to)) =
          let n : get_or values (stop_of x values links).node 0 ≡ x → ⊥ = λ e. m (ap (λ (j : ℕ). get_or values j 0) to ∙ e) in
          first_absent x k values inside (g.absent x n) (λ e. s n (record { there = ap (λ (z : ℕ). (stop_of z values links).node) e; side = ap (λ (z : ℕ). (stop_of z values links).key % 2) e }))

  grown_more : Grown values (suc k) (inserted values links k)
  unfolding inserted
  grown_more = go (ℕ_discrete (get_or values (ended values links k).node 0) (get_or values k 0))
    where
      go : Dec (get_or values (ended values links k).node 0 ≡ get_or values k 0) → Grown values (suc k) (inserted values links k)
      go (yes e) = subst (Grown values (suc k)) (sym (ap (λ (b : Bool). cond b links (put values links k)) (eq-eqb _ _ e))) (more_old e)
      go (no n) = subst (Grown values (suc k)) (sym (ap (λ (b : Bool). cond b links (put values links k)) (ne_eqb _ _ n))) (more_new n)

grown_all : (values : List ℕ) → length values ≤ limit → (c k : ℕ) (links : List ℕ) → k + c ≡ length values → Grown values k links → Grown values (length values) (grown_from values k c links)
unfolding grown_from
grown_all values few zero k links h g = subst (λ (n : ℕ). Grown values n links) (omega arith) g
grown_all values few (suc c) k links h g = grown_all values few c (suc k) (inserted values links k) (omega arith) (grown_more values links k few (omega arith) g)

-- ---- from words of 0

blank : (n j : ℕ) → ◌≡◌ {A = ℕ} (get_or (replicate n 0) j 0) 0
blank zero j = refl
blank (suc n) zero = refl
blank (suc n) (suc j) = blank n j

blank_child : (n m node key : ℕ) → child_at m (replicate n 0) node key ≡ 0
unfolding child_at
blank_child n m node key = ap (λ (c : ℕ). cond (ltb node c && ltb c m) c 0) (ap (side_of key) (blank n node) ∙ side_none key) ∙ none (ltb node 0 && ltb 0 m)
  where
    none : (b : Bool) → ◌≡◌ {A = ℕ} (cond b 0 0) 0
    none true = refl
    none false = refl

first_node : (v : ℕ) (vs : List ℕ) → Grown (v ∷ vs) 1 (replicate (suc (length vs)) 0)
unfolding first_at stop_of stop_at
first_node v vs = record {
  long = length-replicate (suc (length vs)) 0;
  bound = λ node key. omega (arith, blank_child (suc (length vs)) (suc (length vs)) node key);
  met = λ x e. root x ∙ sym (first_here x v [] (sym e ∙ ap (λ (j : ℕ). get_or (v ∷ vs) j 0) (root x)));
  absent = λ x n. first_later x v [] (λ e. n (ap (λ (j : ℕ). get_or (v ∷ vs) j 0) (root x) ∙ sym e));
}
  where
    root : (x : ℕ) → (stop_of x (v ∷ vs) (replicate (suc (length vs)) 0)).node ≡ 0
    root x = ap (λ (s : Stop). s.node) (walked_end (v ∷ vs) (replicate (suc (length vs)) 0) x (suc (length vs)) x 0 (blank_child (suc (length vs)) (suc (length vs)) 0 x))

found_first : (values links : List ℕ) → Grown values (length values) links → (x : ℕ) → found x values links ≡ first_at x values
unfolding found
found_first values links g x = go (ℕ_discrete (get_or values (stop_of x values links).node 0) x)
  where
    whole : first_at x (take (length values) values) ≡ first_at x values
    whole = ap (first_at x) (take-length values)

    go : Dec (get_or values (stop_of x values links).node 0 ≡ x) → cond (eqb (get_or values (stop_of x values links).node 0) x) (stop_of x values links).node (length values) ≡ first_at x values
    go (yes e) = ap (λ (b : Bool). cond b (stop_of x values links).node (length values)) (eq-eqb _ _ e) ∙ g.met x e ∙ whole
    go (no n) = ap (λ (b : Bool). cond b (stop_of x values links).node (length values)) (ne_eqb _ _ n) ∙ sym (g.absent x n) ∙ whole

-- no values
found_nothing : (x : ℕ) → found x [] (grown [] []) ≡ first_at x []
unfolding found grown grown_from stop_of walked stop_at first_at
found_nothing x = both (eqb 0 x)
  where
    both : (b : Bool) → ◌≡◌ {A = ℕ} (cond b 0 0) 0
    both true = refl
    both false = refl

pub search_finds_first : SearchFindsFirst
unfolding grown
search_finds_first x [] few = found_nothing x
search_finds_first x (v ∷ vs) few =
    found_first (v ∷ vs) _ (grown_all (v ∷ vs) few (suc (length vs) - 1) 1 (replicate (suc (length vs)) 0) (omega arith) (first_node v vs)) x
