-- The first place of a value in a list.
--     first_here, first_later     by the first element
--     first_kept, first_met, first_absent     in one element more
--     among_first     a value is among a list where that place is before the end
-- Assumes nothing.
use Prim.Native.Nat.{ℕ, suc, ◌+◌, ◌<◌}
use native.Mathlib.Omega.{arith}
use native.Mathlib.Decide.{ℕ_discrete}
use mathlib.Core.Bool.{Bool, true, false, cond, ◌||◌}
use mathlib.Core.Path.{◌≡◌, sym, ap, ◌∙◌}
use mathlib.Core.List.{List, [], ◌∷◌, ◌++◌}
use lib.Dec.{eqb, ltb, leb-suc-suc, leb-suc-zero}
use lib.ListN.{length, get_or, take}
use lib.Seq.{take-suc, length-take-le}
use borrow.Author.Tests.{eq-eqb, ne_eqb, lt-ltb}
use Rattle.runs.specs.Plain.{among}
use Rattle.index.specs.Values.{first_at}

pub first_here : (x y : ℕ) (ys : List ℕ) → x ≡ y → first_at x (y ∷ ys) ≡ 0
unfolding first_at
first_here x y ys e = ap (λ (b : Bool). cond b 0 (suc (first_at x ys))) (eq-eqb x y e)

pub first_later : (x y : ℕ) (ys : List ℕ) → (x ≡ y → ⊥) → first_at x (y ∷ ys) ≡ suc (first_at x ys)
unfolding first_at
first_later x y ys h = ap (λ (b : Bool). cond b 0 (suc (first_at x ys))) (ne_eqb x y h)

-- a value that is in the front part is found there
first_in : (x : ℕ) (ys zs : List ℕ) → first_at x ys < length ys → first_at x (ys ++ zs) ≡ first_at x ys
first_in x [] zs h = absurd (omega arith)
first_in x (y ∷ ys) zs h = go (ℕ_discrete x y) (first_in x ys zs)
  where
    go : Dec (x ≡ y) → (first_at x ys < length ys → first_at x (ys ++ zs) ≡ first_at x ys) → first_at x (y ∷ ys ++ zs) ≡ first_at x (y ∷ ys)
    go (yes e) ih = first_here x y (ys ++ zs) e ∙ sym (first_here x y ys e)
    go (no n) ih = let l = first_later x y ys n in first_later x y (ys ++ zs) n ∙ ap suc (ih (omega arith)) ∙ sym l

-- one that is not, after it
first_past : (x : ℕ) (ys zs : List ℕ) → first_at x ys ≡ length ys → first_at x (ys ++ zs) ≡ length ys + first_at x zs
first_past x [] zs h = omega arith
first_past x (y ∷ ys) zs h = go (ℕ_discrete x y) (first_past x ys zs)
  where
    go : Dec (x ≡ y) → (first_at x ys ≡ length ys → first_at x (ys ++ zs) ≡ length ys + first_at x zs) → first_at x (y ∷ ys ++ zs) ≡ suc (length ys) + first_at x zs
    go (yes e) ih = absurd (omega (arith, first_here x y ys e))
    go (no n) ih =
        let l = first_later x y ys n in
        let i = ih (omega arith) in
        let m = first_later x y (ys ++ zs) n in
        omega arith

module _ (x k : ℕ) (ys : List ℕ) (more : k < length ys) where
  many : length (take k ys) ≡ k
  many = length-take-le k ys (omega arith)

  pub first_kept : first_at x (take k ys) < k → first_at x (take (suc k) ys) ≡ first_at x (take k ys)
  first_kept h = ap (first_at x) (take-suc ys k 0 more) ∙ first_in x (take k ys) (get_or ys k 0 ∷ []) (omega (arith, many))

  past : first_at x (take k ys) ≡ k → first_at x (take (suc k) ys) ≡ k + first_at x (get_or ys k 0 ∷ [])
  past h =
      ap (first_at x) (take-suc ys k 0 more) ∙ first_past x (take k ys) (get_or ys k 0 ∷ []) (h ∙ sym many)
      ∙ ap (λ (n : ℕ). n + first_at x (get_or ys k 0 ∷ [])) many

  pub first_met : first_at x (take k ys) ≡ k → x ≡ get_or ys k 0 → first_at x (take (suc k) ys) ≡ k
  first_met h e = omega (arith, past h, first_here x (get_or ys k 0) [] e)

  pub first_absent : first_at x (take k ys) ≡ k → (x ≡ get_or ys k 0 → ⊥) → first_at x (take (suc k) ys) ≡ suc k
  unfolding first_at
  first_absent h n = omega (arith, past h, first_later x (get_or ys k 0) [] n)

-- a value is among a list where its first place is before the end
pub among_first : (x : ℕ) (ys : List ℕ) → among x ys ≡ ltb (first_at x ys) (length ys)
unfolding among first_at
among_first x [] = sym (leb-suc-zero 0)
among_first x (y ∷ ys) = go (eqb x y) (among_first x ys)
  where
    go : (b : Bool) → among x ys ≡ ltb (first_at x ys) (length ys) → (b || among x ys) ≡ ltb (cond b 0 (suc (first_at x ys))) (suc (length ys))
    go true ih = sym (lt-ltb 0 (suc (length ys)) (omega arith))
    go false ih = ih ∙ sym (leb-suc-suc (suc (first_at x ys)) (length ys))
