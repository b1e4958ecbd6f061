-- Nodes put into the tree, and a search in it, as the code does them.
--     grown_next, grown_done      the nodes that are left to put in
--     found_some, found_none      what a search answers
-- Assumes nothing.
use Prim.Native.Nat.{ℕ, suc, ◌+◌, ◌-◌, ◌≤◌, ◌<◌}
use native.Mathlib.Omega.{arith}
use mathlib.Core.Bool.{Bool, true, false, cond}
use mathlib.Core.Path.{◌≡◌, refl, sym, ap, ◌∙◌}
use mathlib.Core.List.{List}
use lib.Dec.{eqb, ltb}
use lib.ListN.{length, get_or}
use native.Mathlib.Decide.{ℕ_discrete}
use borrow.Author.Tests.{eq-eqb, ne_eqb, lt-ltb, ltb-true}
use Rattle.std.specs.Prelude.{None, Some}
use Rattle.index.specs.declared.Stop.{Stop}
use Rattle.index.specs.Tree.{stop_of, found, found_at, inserted, grown_from}

pub grown_next : (values links : List ℕ) (n k : ℕ) → k < n → grown_from values k (n - k) links ≡ grown_from values (k + 1) (n - (k + 1)) (inserted values links k)
unfolding grown_from
grown_next values links n k h =
    let left : n - k ≡ suc (n - (k + 1)) = omega arith in
    let next : suc k ≡ k + 1 = omega arith in
    ap (λ (c : ℕ). grown_from values k c links) left ∙ ap (λ (j : ℕ). grown_from values j (n - (k + 1)) (inserted values links k)) next

pub grown_done : (values links : List ℕ) (n k : ℕ) → n ≤ k → grown_from values k (n - k) links ≡ links
unfolding grown_from
grown_done values links n k h = let none : n - k ≡ 0 = omega arith in ap (λ (c : ℕ). grown_from values k c links) none

-- what a search answers
module _ (values links : List ℕ) (x : ℕ) (s : Stop) (ends : s ≡ stop_of x values links) where
  pub found_as : found x values links ≡ cond (eqb (get_or values s.node 0) x) s.node (length values)
  unfolding found
  found_as = λ i. cond (eqb (get_or values (sym ends i).node 0) x) (sym ends i).node (length values)

  pub found_some : s.node < length values → get_or values s.node 0 ≡ x → Some s.node ≡ found_at x values links
  found_some inside e =
      let is : found x values links ≡ s.node = found_as ∙ rw (eq-eqb _ _ e) in
      sym (rw is (rw (lt-ltb s.node (length values) inside)))

  pub found_none : (s.node < length values → get_or values s.node 0 ≡ x → ⊥) → None ≡ found_at x values links
  found_none other = go (ltb (found x values links) (length values)) refl
    where
      go : (b : Bool) → ltb (found x values links) (length values) ≡ b → None ≡ cond b (Some (found x values links)) None
      go true p = absurd (both (ℕ_discrete (get_or values s.node 0) x))
        where
          both : Dec (get_or values s.node 0 ≡ x) → ⊥
          both (yes e) = let is : found x values links ≡ s.node = found_as ∙ rw (eq-eqb _ _ e) in other (omega (arith, ltb-true _ _ p)) e
          both (no n) = let is : found x values links ≡ length values = found_as ∙ rw (ne_eqb _ _ n) in omega (arith, ltb-true _ _ p)
      go false p = refl
