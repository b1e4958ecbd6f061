-- The hash of vectors, each hashed as its inner product with w: at most one in q choices of w
-- leaves the two lists of inner products equal modulo q, and at any other the hashes are equal at
-- no more than n values of r.
-- Assumes nothing.
use Prim.Native.Nat.{ℕ, suc, ◌+◌, ◌*◌, ◌^◌, ◌%◌, ◌≤◌}
use mathlib.Core.Path.{◌≡◌, refl, sym, ◌∙◌, ap, ap₂}
use mathlib.Core.Logic.{◌≢◌}
use mathlib.Core.Bool.{Bool, true, false}
use mathlib.Core.List.{List, [], ◌∷◌, map, List-discrete, head-eq_of_cons-eq, tail-eq_of_cons-eq}
use native.Mathlib.Nat.{le_trans, le_of_eq, zero-add}
use native.Mathlib.Decide.{ℕ_discrete}
use native.Mathlib.Omega.{arith}
use lib.Dec.{eqb}
use lib.ListN.{length, length-map}
use borrow.Author.Tests.{eq-eqb}
use Rattle.algebra.specs.Sum.{bit, count, counts}
use Rattle.algebra.specs.Prime.{Prime}
use Rattle.algebra.specs.Vector.{inner, remainders, Below, Wide}
use Rattle.algebra.specs.Hash.{hash}
use Rattle.algebra.specs.Statements.{WordsHashBound}
use Rattle.algebra.proofs.Sum.{sum_sums_swap, sums_monotone, sums_additive, sums_constant, sums_scale, count_all}
use Rattle.algebra.proofs.Plane.{forms_agree_bound}
use Rattle.algebra.proofs.Hash.{hash_bound}
use Rattle.algebra.proofs.Factor.{remainders_below}

-- A test that is passed wherever two lists of inner products are equal modulo q, and by no more
-- than one in q vectors
record Rare (q d : ℕ) (xs ys : List (List ℕ)) : Type 0 where
  test : List ℕ → Bool
  passes : (w : List ℕ) → remainders q (map (inner w) xs) ≡ remainders q (map (inner w) ys) → test w ≡ true
  few : q * counts q d test ≤ q ^ d

-- vectors that differ in front
rare_here :
    (q d : ℕ) (x y : List ℕ) (xs ys : List (List ℕ)) → Prime q → length x ≡ d → length y ≡ d → Below q x → Below q y → x ≢ y
    → Rare q d (x ∷ xs) (y ∷ ys)
unfolding remainders
rare_here q d x y xs ys prime sx sy bx by differ = record {
  test = λ w. eqb ((0 + inner w x) % q) ((0 + inner w y) % q);
  passes =
      λ w e. eq-eqb _ _ (ap (λ (t : ℕ). t % q) (zero-add (inner w x)) ∙ (head-eq_of_cons-eq e ∙ ap (λ (t : ℕ). t % q) (sym (zero-add (inner w y)))));
  few =
      forms_agree_bound q d 0 0 x y prime sx sy (λ e. differ (sym (remainders_below q x bx) ∙ (e ∙ remainders_below q y by)));
}

-- and further on
rare_later : (q d : ℕ) (x y : List ℕ) (xs ys : List (List ℕ)) → Rare q d xs ys → Rare q d (x ∷ xs) (y ∷ ys)
unfolding remainders
rare_later q d x y xs ys rest = record { test = rest.test; passes = λ w e. rest.passes w (tail-eq_of_cons-eq e); few = rest.few }

-- different lists of equally many vectors have such a test
rare : (q d : ℕ) (xs ys : List (List ℕ)) → Prime q → length xs ≡ length ys → Wide q d xs → Wide q d ys → xs ≢ ys → Rare q d xs ys
rare q d [] [] prime e wx wy differ = absurd (differ refl)
rare q d [] (y ∷ ys) prime e wx wy differ = absurd (omega arith)
rare q d (x ∷ xs) [] prime e wx wy differ = absurd (omega arith)
rare q d (x ∷ xs) (y ∷ ys) prime e wx wy differ = split (List-discrete ℕ_discrete x y) (rare q d xs ys prime (omega arith) wx.2 wy.2)
  where
    split : Dec (x ≡ y) → (xs ≢ ys → Rare q d xs ys) → Rare q d (x ∷ xs) (y ∷ ys)
    split (yes same) further =
        rare_later q d x y xs ys (further (λ rest. differ (ap₂ {C = List (List ℕ)} (λ a l. a ∷ l) same rest)))
    split (no apart) further = rare_here q d x y xs ys prime wx.0 wy.0 wx.1 wy.1 apart

-- at a vector that fails the test at most n values of r give equal hashes, at one that passes it at
-- most q
values_bound :
    (q d n : ℕ) (xs ys : List (List ℕ)) (w : List ℕ) → Prime q → length xs ≡ suc n → length ys ≡ suc n → (r : Rare q d xs ys)
    → count q (λ r. eqb (hash q r (map (inner w) xs)) (hash q r (map (inner w) ys))) ≤ n + q * bit (r.test w)
unfolding bit
values_bound q d n xs ys w prime lx ly r = split (r.test w) refl
  where
    split : (b : Bool) → r.test w ≡ b → count q (λ r. eqb (hash q r (map (inner w) xs)) (hash q r (map (inner w) ys))) ≤ n + q * bit b
    split true e = omega (arith, count_all q (λ r. eqb (hash q r (map (inner w) xs)) (hash q r (map (inner w) ys))))
    split false e =
        omega (
          arith,
          hash_bound q n (map (inner w) xs) (map (inner w) ys) prime (length-map xs (inner w) ∙ lx) (length-map ys (inner w) ∙ ly)
              (λ same. absurd (omega (arith, ap bit (sym e ∙ r.passes w same)))),
        )

-- over all vectors and all values of r
pub words_hash_bound : WordsHashBound
unfolding count counts
words_hash_bound q d n xs ys prime lx ly wx wy differ =
    let r = rare q d xs ys prime (lx ∙ sym ly) wx wy differ in
    le_trans (le_of_eq (sum_sums_swap q q d _))
    (le_trans (sums_monotone q d _ (λ w. n + q * bit (r.test w)) (λ w. values_bound q d n xs ys w prime lx ly r))
    (le_trans (le_of_eq (sums_additive q d (λ w. n) (λ w. q * bit (r.test w))))
    (omega (arith, sums_constant q d n, sums_scale q d q (λ w. bit (r.test w)), r.few))))
