-- Lists that hold the same entries equally often: sums of a weight over a list, the laws of EquallyOften, and, where a test decides
-- whether two entries are equal, an entry that occurs in a list can be taken out of it.
-- Assumes nothing.
use Prim.Native.Nat.{ℕ, suc, ◌+◌, ◌<◌}
use mathlib.Core.Path.{◌≡◌, refl, sym, ◌∙◌, ap, ap₂, subst}
use mathlib.Core.Logic.{◌⊎◌, inl, inr, ⊎_elim, ◌≢◌}
use mathlib.Core.Bool.{Bool, true, false, ◌&&◌}
use mathlib.Core.List.{List, [], ◌∷◌, ◌++◌}
use native.Mathlib.Omega.{arith}
use lib.Dec.{T, eqb, eqb→eq, eqb_refl}
use lib.ListN.{length}
use Rattle.algebra.specs.Sum.{bit}
use Rattle.algebra.specs.Multiset.{total, EquallyOften}

module _ {A : Type 0} where
  -- the sum over two lists joined
  pub total_append : (weight : A → ℕ) (xs ys : List A) → total weight (xs ++ ys) ≡ total weight xs + total weight ys
  unfolding total
  total_append weight [] ys = omega arith
  total_append weight (x ∷ xs) ys = omega (arith, total_append weight xs ys)

  -- the weight 1 counts the entries
  pub total_one : (xs : List A) → total (λ x. 1) xs ≡ length xs
  unfolding total
  total_one [] = refl
  total_one (x ∷ xs) = omega (arith, total_one xs)

  -- an equivalence
  pub often_of_eq : {xs ys : List A} → xs ≡ ys → EquallyOften xs ys
  often_of_eq e weight = ap (total weight) e

  pub often_sym : (xs ys : List A) → EquallyOften xs ys → EquallyOften ys xs
  often_sym xs ys h weight = sym (h weight)

  pub often_trans : (xs ys zs : List A) → EquallyOften xs ys → EquallyOften ys zs → EquallyOften xs zs
  often_trans xs ys zs h k weight = h weight ∙ k weight

  -- the same entry put in front of both lists, and taken away from the front of both
  pub often_cons : (x : A) (xs ys : List A) → EquallyOften xs ys → EquallyOften (x ∷ xs) (x ∷ ys)
  unfolding total
  often_cons x xs ys h weight = ap (λ (t : ℕ). weight x + t) (h weight)

  pub often_cancel : (x : A) (xs ys : List A) → EquallyOften (x ∷ xs) (x ∷ ys) → EquallyOften xs ys
  unfolding total
  often_cancel x xs ys h weight = omega (arith, h weight)

  -- an entry from the middle of a list moved to its front
  pub often_move : (us : List A) (x : A) (vs : List A) → EquallyOften (us ++ (x ∷ vs)) (x ∷ (us ++ vs))
  unfolding total
  often_move us x vs weight = omega (arith, total_append weight us (x ∷ vs), total_append weight us vs)

  -- lists that hold the same entries equally often are equally long
  pub often_length : (xs ys : List A) → EquallyOften xs ys → length xs ≡ length ys
  often_length xs ys h = sym (total_one xs) ∙ (h (λ x. 1) ∙ total_one ys)

  -- the length of a list with an entry in the middle
  pub length_move : (us : List A) (x : A) (vs : List A) → length (us ++ (x ∷ vs)) ≡ suc (length (us ++ vs))
  length_move [] x vs = refl
  length_move (u ∷ us) x vs = ap suc (length_move us x vs)

  -- x is none of the entries
  abbrev pub Absent : A → List A → Type 0
  Absent x [] = Unit {0}
  Absent x (y ∷ ys) = (x ≢ y) × Absent x ys

  -- x is one of the entries: the list falls apart into what stands before x, x, and what stands behind it
  pub record Present (x : A) (ys : List A) : Type 0 where
    pub before : List A
    pub behind : List A
    pub parts : ys ≡ before ++ (x ∷ behind)

  -- an entry further in front
  pub present_cons : {x : A} (y : A) {ys : List A} → Present x ys → Present x (y ∷ ys)
  present_cons {x} y p = record { before = y ∷ p.before; behind = p.behind; parts = ap {B = List A} (λ l. y ∷ l) p.parts }

  -- the list without that entry
  unfoldable pub without : {x : A} {ys : List A} → Present x ys → List A
  without p = p.before ++ p.behind

  -- together with x it holds the entries of the whole list, and it is one entry shorter
  pub often_without : {x : A} {ys : List A} (p : Present x ys) → EquallyOften ys (x ∷ without p)
  unfolding without
  often_without {x} {ys} p = often_trans ys (p.before ++ (x ∷ p.behind)) (x ∷ without p) (often_of_eq p.parts) (often_move p.before x p.behind)

  pub length_without : {x : A} {ys : List A} (p : Present x ys) → length ys ≡ suc (length (without p))
  unfolding without
  length_without {x} p = ap length p.parts ∙ length_move p.before x p.behind

-- the bit of a test
bit_passed : (b : Bool) → T b → bit b ≡ 1
unfolding bit
bit_passed true t = refl
bit_passed false t = absurd t

bit_failed : (b : Bool) → (T b → ⊥) → bit b ≡ 0
unfolding bit
bit_failed true n = absurd (n tt)
bit_failed false n = refl

-- a type whose entries a test compares
module _ {A : Type 0} (test : A → A → Bool) (sound : (x y : A) → T (test x y) → x ≡ y) (self : (x : A) → T (test x x)) where
  -- how often x occurs in a list
  unfoldable pub occurrences : A → List A → ℕ
  occurrences x ys = total (λ y. bit (test x y)) ys

  -- whether an entry is there is decided by the test at the first entry,
  find_cons : (x y : A) (ys : List A) (b : Bool) → test x y ≡ b → Present x ys ⊎ Absent x ys → Present x (y ∷ ys) ⊎ Absent x (y ∷ ys)
  find_cons x y ys true e rest = inl (record { before = []; behind = ys; parts = ap {B = List A} (λ a. a ∷ ys) (sym (sound x y (subst T (sym e) tt))) })
  find_cons x y ys false e (inl p) = inl (present_cons y p)
  find_cons x y ys false e (inr n) = inr ((λ d. subst T e (subst (λ (a : A). T (test x a)) d (self x))), n)

  -- and so an entry is there or not
  pub find : (x : A) (ys : List A) → Present x ys ⊎ Absent x ys
  find x [] = inr tt
  find x (y ∷ ys) = find_cons x y ys (test x y) refl (find x ys)

  -- x occurs once more in a list with x in front
  pub occurs_self : (x : A) (ys : List A) → occurrences x (x ∷ ys) ≡ suc (occurrences x ys)
  unfolding occurrences total
  occurs_self x ys = omega (arith, bit_passed (test x x) (self x))

  -- an entry that is absent occurs 0 times
  pub occurs_absent : (x : A) (ys : List A) → Absent x ys → occurrences x ys ≡ 0
  unfolding occurrences total
  occurs_absent x [] n = refl
  occurs_absent x (y ∷ ys) n = omega (arith, bit_failed (test x y) (λ t. n.0 (sound x y t)), occurs_absent x ys n.1)

  -- an entry that occurs is present
  pub occurs_present : (x : A) (ys : List A) → 0 < occurrences x ys → Present x ys
  occurs_present x ys h = ⊎_elim (λ p. p) (λ n. absurd (omega (arith, h, occurs_absent x ys n))) (find x ys)

  -- the entry in front of one list occurs in every list that holds the same entries equally often
  pub present_often : (x : A) (xs ys : List A) → EquallyOften (x ∷ xs) ys → Present x ys
  unfolding occurrences
  present_often x xs ys h = occurs_present x ys (omega (arith, h (λ y. bit (test x y)), occurs_self x xs))

-- vectors are compared entry by entry
unfoldable pub equal_vectors : List ℕ → List ℕ → Bool
equal_vectors [] [] = true
equal_vectors [] (y ∷ ys) = false
equal_vectors (x ∷ xs) [] = false
equal_vectors (x ∷ xs) (y ∷ ys) = eqb x y && equal_vectors xs ys

-- two tests passed together, and each by itself
both_passed : (a b : Bool) → T (a && b) → T a × T b
both_passed true b t = (tt, t)
both_passed false b t = absurd t

both_pass : (a b : Bool) → T a → T b → T (a && b)
both_pass true b s t = t
both_pass false b s t = s

-- the test passes at equal vectors, and only there
pub equal_vectors_sound : (xs ys : List ℕ) → T (equal_vectors xs ys) → xs ≡ ys
unfolding equal_vectors
equal_vectors_sound [] [] t = refl
equal_vectors_sound [] (y ∷ ys) t = absurd t
equal_vectors_sound (x ∷ xs) [] t = absurd t
equal_vectors_sound (x ∷ xs) (y ∷ ys) t =
    let both = both_passed (eqb x y) (equal_vectors xs ys) t in
    ap₂ {C = List ℕ} (λ a l. a ∷ l) (eqb→eq x y both.0) (equal_vectors_sound xs ys both.1)

pub equal_vectors_self : (xs : List ℕ) → T (equal_vectors xs xs)
unfolding equal_vectors
equal_vectors_self [] = tt
equal_vectors_self (x ∷ xs) = both_pass (eqb x x) (equal_vectors xs xs) (eqb_refl x) (equal_vectors_self xs)

-- a vector is in a list or not
pub find_vector : (x : List ℕ) (ys : List (List ℕ)) → Present x ys ⊎ Absent x ys
find_vector = find equal_vectors equal_vectors_sound equal_vectors_self

-- the vector in front of one list is in every list that holds the same vectors equally often
pub present_vector : (x : List ℕ) (xs ys : List (List ℕ)) → EquallyOften (x ∷ xs) ys → Present x ys
present_vector = present_often equal_vectors equal_vectors_sound equal_vectors_self
