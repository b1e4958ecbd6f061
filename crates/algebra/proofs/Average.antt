-- Counting along lines: a test that at most m points of every line in one direction pass is passed by at most m · q ^ k of the
-- q ^ (k + 1) vectors.
-- Assumes nothing.
use Prim.Native.Nat.{ℕ, suc, ◌*◌, ◌^◌, ◌≤◌, ◌<◌}
use mathlib.Core.Path.{◌≡◌, sym, ◌∙◌, ap, subst}
use mathlib.Core.Bool.{Bool}
use mathlib.Core.List.{List}
use native.Mathlib.Nat.{le_trans, le_of_eq, le_of_mul-le-mul_right, pow-suc}
use native.Mathlib.Omega.{arith}
use lib.ListN.{length}
use Rattle.algebra.specs.Sum.{bit, count, sums, counts}
use Rattle.algebra.specs.Vector.{along, remainders}
use Rattle.algebra.proofs.Sum.{sum_constant, sum_ext, sum_sums_swap, sums_shift, sums_monotone_within, sums_constant}

-- every vector is met once for each of the q points of the lines in the direction v
pub lines_cover :
    (q : ℕ) (v : List ℕ) (test : List ℕ → Bool) → ((x y : List ℕ) → remainders q x ≡ remainders q y → test x ≡ test y)
    → counts q (length v) test * q ≡ sums q (length v) (λ w. count q (λ t. test (along w t v)))
unfolding counts count
lines_cover q v test sees =
    sym (sum_constant q (counts q (length v) test))
    ∙ (sum_ext q _ _ (λ t l. sym (sums_shift q t v (λ w. bit (test w)) (λ x y e. ap bit (sees x y e))))
    ∙ sum_sums_swap q q (length v) (λ t w. bit (test (along w t v))))

-- so a bound on every line bounds the whole
pub average_bound :
    (q k m : ℕ) (v : List ℕ) (test : List ℕ → Bool) → 0 < q → length v ≡ suc k
    → ((x y : List ℕ) → remainders q x ≡ remainders q y → test x ≡ test y)
    → ((w : List ℕ) → length w ≡ length v → count q (λ t. test (along w t v)) ≤ m)
    → counts q (suc k) test ≤ m * q ^ k
average_bound q k m v test pos size sees line =
    le_of_mul-le-mul_right {k = q} (subst (λ (d : ℕ). counts q d test * q ≤ m * q ^ k * q) size whole) pos
  where
    whole : counts q (length v) test * q ≤ m * q ^ k * q
    whole =
        le_trans (le_of_eq (lines_cover q v test sees))
        (le_trans (sums_monotone_within q (length v) _ (λ w. m) (λ w e b. line w e))
        (le_of_eq (sums_constant q (length v) m ∙ (ap (λ (d : ℕ). m * q ^ d) size ∙ (ap (λ (t : ℕ). m * t) (pow-suc q k) ∙ omega arith)))))
