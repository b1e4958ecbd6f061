-- Exact numbers of challenges at which two small lists of vectors balance, and of choices of r and
-- w at which their hashes are equal, by computation. The numbers are those that
-- tests/small_counts.pl counts by itself. Behind a number stands the bound: m · q ^ k of the
-- shuffle, where the lists do not hold the same vectors, and m · q ^ d of the hash, where they
-- differ and their vectors are of one length.
--     one_against_one               q = 3, k = 2, one vector each: 9 of 27, bound 9
--     one_against_none              q = 3, k = 2, one vector and none: 9 of 27, bound 9
--     two_against_two               q = 3, k = 2, two vectors each: 15 of 27, bound 18
--     two_against_one               q = 3, k = 2, two vectors and one: 9 of 27, bound 18
--     two_against_two_modulo_5      q = 5, k = 2, two vectors each: 45 of 125, bound 50
--     one_against_one_of_width_3    q = 3, k = 3, one vector each: 27 of 81, bound 27
--     two_against_two_of_width_3    q = 3, k = 3, two vectors each: 45 of 81, bound 54
--     other_order                   q = 3, k = 2, the same two vectors in another order: 27 of 27
--     hashes_of_one                 q = 3, d = 2, one vector each: 9 of 27, bound 9
--     hashes_of_two                 q = 3, d = 2, two vectors each: 15 of 27, bound 18
--     hashes_of_three               q = 3, d = 2, three vectors each: 21 of 27, bound 27
--     hashes_of_two_modulo_5        q = 5, d = 2, two vectors each: 45 of 125, bound 50
--     hashes_of_one_of_width_3      q = 3, d = 3, one vector each: 27 of 81, bound 27
--     hashes_of_two_of_width_3      q = 3, d = 3, two vectors each: 45 of 81, bound 54
--     hashes_of_width_1             q = 5, d = 1, two vectors each: 9 of 25, bound 10
--     hashes_in_other_order         q = 3, d = 2, two vectors in another order: 15 of 27, bound 18
--     hashes_of_equal_lists         q = 3, d = 2, the same list twice: 27 of 27
--     hashes_of_two_widths          q = 3, d = 2, one vector of length 2, one of length 3: 27 of 27
-- Assumes nothing.
use Prim.Native.Nat.{ℕ, suc}
use mathlib.Core.Path.{◌≡◌, refl}
use mathlib.Core.List.{List, [], ◌∷◌, map}
use lib.Dec.{eqb}
use Rattle.algebra.specs.Sum.{sum, bit, sums, counts}
use Rattle.algebra.specs.Modulo.{minus, times}
use Rattle.algebra.specs.Vector.{inner}
use Rattle.algebra.specs.Shuffle.{factor, product, balances}
use Rattle.algebra.specs.Hash.{hash, hash_from}

-- how many of the q ^ (k + 1) challenges balance two lists of vectors
unfoldable pub balanced : ℕ → ℕ → List (List ℕ) → List (List ℕ) → ℕ
unfolding counts sums sum bit balances product factor inner minus times
balanced q k xs ys = counts q (suc k) (λ c. balances q c xs ys)

pub one_against_one : balanced 3 2 ((1 ∷ 2 ∷ []) ∷ []) ((0 ∷ 1 ∷ []) ∷ []) ≡ 9
unfolding balanced
one_against_one = refl

pub one_against_none : balanced 3 2 ((1 ∷ 2 ∷ []) ∷ []) [] ≡ 9
unfolding balanced
one_against_none = refl

pub two_against_two : balanced 3 2 ((1 ∷ 0 ∷ []) ∷ (0 ∷ 1 ∷ []) ∷ []) ((0 ∷ 0 ∷ []) ∷ (2 ∷ 1 ∷ []) ∷ []) ≡ 15
unfolding balanced
two_against_two = refl

pub two_against_one : balanced 3 2 ((1 ∷ 0 ∷ []) ∷ (0 ∷ 1 ∷ []) ∷ []) ((1 ∷ 1 ∷ []) ∷ []) ≡ 9
unfolding balanced
two_against_one = refl

pub two_against_two_modulo_5 : balanced 5 2 ((1 ∷ 0 ∷ []) ∷ (0 ∷ 1 ∷ []) ∷ []) ((0 ∷ 0 ∷ []) ∷ (2 ∷ 1 ∷ []) ∷ []) ≡ 45
unfolding balanced
two_against_two_modulo_5 = refl

pub one_against_one_of_width_3 : balanced 3 3 ((1 ∷ 2 ∷ 0 ∷ []) ∷ []) ((1 ∷ 2 ∷ 1 ∷ []) ∷ []) ≡ 27
unfolding balanced
one_against_one_of_width_3 = refl

pub two_against_two_of_width_3 :
    balanced 3 3 ((1 ∷ 2 ∷ 0 ∷ []) ∷ (0 ∷ 1 ∷ 1 ∷ []) ∷ []) ((1 ∷ 2 ∷ 1 ∷ []) ∷ (0 ∷ 1 ∷ 0 ∷ []) ∷ []) ≡ 45
unfolding balanced
two_against_two_of_width_3 = refl

pub other_order : balanced 3 2 ((1 ∷ 2 ∷ []) ∷ (0 ∷ 1 ∷ []) ∷ []) ((0 ∷ 1 ∷ []) ∷ (1 ∷ 2 ∷ []) ∷ []) ≡ 27
unfolding balanced
other_order = refl

-- how many of the q ^ (d + 1) choices of r and w give two lists of vectors equal hashes, each
-- vector hashed as its inner product with w
unfoldable pub hashed : ℕ → ℕ → List (List ℕ) → List (List ℕ) → ℕ
unfolding sums sum bit hash hash_from inner
hashed q d xs ys = sum q (λ r. sums q d (λ w. bit (eqb (hash q r (map (inner w) xs)) (hash q r (map (inner w) ys)))))

pub hashes_of_one : hashed 3 2 ((1 ∷ 2 ∷ []) ∷ []) ((0 ∷ 1 ∷ []) ∷ []) ≡ 9
unfolding hashed
hashes_of_one = refl

pub hashes_of_two : hashed 3 2 ((1 ∷ 0 ∷ []) ∷ (2 ∷ 1 ∷ []) ∷ []) ((0 ∷ 0 ∷ []) ∷ (2 ∷ 1 ∷ []) ∷ []) ≡ 15
unfolding hashed
hashes_of_two = refl

pub hashes_of_three :
    hashed 3 2 ((1 ∷ 0 ∷ []) ∷ (2 ∷ 0 ∷ []) ∷ (1 ∷ 1 ∷ []) ∷ []) ((0 ∷ 0 ∷ []) ∷ (0 ∷ 0 ∷ []) ∷ (1 ∷ 1 ∷ []) ∷ []) ≡ 21
unfolding hashed
hashes_of_three = refl

pub hashes_of_two_modulo_5 : hashed 5 2 ((1 ∷ 2 ∷ []) ∷ (3 ∷ 4 ∷ []) ∷ []) ((0 ∷ 0 ∷ []) ∷ (3 ∷ 4 ∷ []) ∷ []) ≡ 45
unfolding hashed
hashes_of_two_modulo_5 = refl

pub hashes_of_one_of_width_3 : hashed 3 3 ((1 ∷ 2 ∷ 0 ∷ []) ∷ []) ((1 ∷ 2 ∷ 1 ∷ []) ∷ []) ≡ 27
unfolding hashed
hashes_of_one_of_width_3 = refl

pub hashes_of_two_of_width_3 :
    hashed 3 3 ((1 ∷ 2 ∷ 0 ∷ []) ∷ (0 ∷ 1 ∷ 1 ∷ []) ∷ []) ((1 ∷ 2 ∷ 1 ∷ []) ∷ (0 ∷ 1 ∷ 1 ∷ []) ∷ []) ≡ 45
unfolding hashed
hashes_of_two_of_width_3 = refl

pub hashes_of_width_1 : hashed 5 1 ((1 ∷ []) ∷ (2 ∷ []) ∷ []) ((3 ∷ []) ∷ (4 ∷ []) ∷ []) ≡ 9
unfolding hashed
hashes_of_width_1 = refl

pub hashes_in_other_order : hashed 3 2 ((1 ∷ 2 ∷ []) ∷ (0 ∷ 1 ∷ []) ∷ []) ((0 ∷ 1 ∷ []) ∷ (1 ∷ 2 ∷ []) ∷ []) ≡ 15
unfolding hashed
hashes_in_other_order = refl

pub hashes_of_equal_lists : hashed 3 2 ((1 ∷ 2 ∷ []) ∷ (0 ∷ 1 ∷ []) ∷ []) ((1 ∷ 2 ∷ []) ∷ (0 ∷ 1 ∷ []) ∷ []) ≡ 27
unfolding hashed
hashes_of_equal_lists = refl

pub hashes_of_two_widths : hashed 3 2 ((1 ∷ 2 ∷ []) ∷ []) ((1 ∷ 2 ∷ 1 ∷ []) ∷ []) ≡ 27
unfolding hashed
hashes_of_two_widths = refl
