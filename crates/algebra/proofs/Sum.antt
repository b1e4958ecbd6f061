-- The laws of sums and counts, over the numbers below a bound and over all vectors with entries below a bound: larger terms, sums of
-- sums, constants, factors, the order of summation, shifts modulo q, the union of two tests, and a vector that fails a test.
-- Assumes nothing.
use Prim.Native.Nat.{ℕ, zero, suc, ◌+◌, ◌*◌, ◌^◌, ◌%◌, ◌<◌, ◌≤◌, zero-le}
use mathlib.Core.Path.{◌≡◌, refl, sym, ◌∙◌, ap, ap₂}
use mathlib.Core.Bool.{Bool, true, false, ◌||◌}
use mathlib.Core.List.{List, [], ◌∷◌}
use native.Mathlib.Nat.{le_refl, le_of_eq, le_trans, lt_of_lt_of_le, ne_of_lt, le_step, add-le-add}
use native.Mathlib.Nat.{mul_assoc, mul-one, one-mul, pow-zero, pow-suc, mod-mod, add-mod_left}
use native.Mathlib.Omega.{arith}
use native.Mathlib.Decide.{dec_lt}
use lib.ListN.{length}
use Rattle.algebra.specs.Sum.{sum, bit, count, sums, counts}
use Rattle.algebra.specs.Vector.{along, remainders, Below}
use Rattle.algebra.specs.Statements.{SumsMonotone, SumsAdditive, SumsConstant, SumsSwap, SumsShift, UnionBound, Witness}

-- Sums over a range: a larger term below n gives a larger sum
pub sum_monotone : (n : ℕ) (f g : ℕ → ℕ) → ((x : ℕ) → x < n → f x ≤ g x) → sum n f ≤ sum n g
unfolding sum
sum_monotone zero f g h = le_refl 0
sum_monotone (suc n) f g h = add-le-add (sum_monotone n f g (λ x l. h x (le_step l))) (h n (le_refl (suc n)))

-- equal terms below n give equal sums
pub sum_ext : (n : ℕ) (f g : ℕ → ℕ) → ((x : ℕ) → x < n → f x ≡ g x) → sum n f ≡ sum n g
unfolding sum
sum_ext zero f g h = refl
sum_ext (suc n) f g h = ap₂ (λ (a b : ℕ). a + b) (sum_ext n f g (λ x l. h x (le_step l))) (h n (le_refl (suc n)))

-- the sum of sums is the sum
pub sum_additive : (n : ℕ) (f g : ℕ → ℕ) → sum n (λ x. f x + g x) ≡ sum n f + sum n g
unfolding sum
sum_additive zero f g = refl
sum_additive (suc n) f g = ap (λ (s : ℕ). s + (f n + g n)) (sum_additive n f g) ∙ omega arith

-- a constant is taken n times
pub sum_constant : (n c : ℕ) → sum n (λ x. c) ≡ c * n
unfolding sum
sum_constant zero c = omega arith
sum_constant (suc n) c = ap (λ (s : ℕ). s + c) (sum_constant n c) ∙ omega arith

-- a factor comes out
pub sum_scale : (n k : ℕ) (f : ℕ → ℕ) → sum n (λ x. k * f x) ≡ k * sum n f
unfolding sum
sum_scale zero k f = omega arith
sum_scale (suc n) k f = ap (λ (s : ℕ). s + k * f n) (sum_scale n k f) ∙ omega arith

-- the order of two sums does not matter
pub sum_swap : (n m : ℕ) (f : ℕ → ℕ → ℕ) → sum n (λ x. sum m (λ y. f x y)) ≡ sum m (λ y. sum n (λ x. f x y))
unfolding sum
sum_swap zero m f = omega (arith, sum_constant m 0)
sum_swap (suc n) m f =
    ap (λ (s : ℕ). s + sum m (f n)) (sum_swap n m f) ∙ sym (sum_additive m (λ y. sum n (λ x. f x y)) (f n))

-- moving a range up by one exchanges the first term for the one after the last
sum_move : (n : ℕ) (g : ℕ → ℕ) → sum n (λ x. g (suc x)) + g 0 ≡ sum n g + g n
unfolding sum
sum_move zero g = refl
sum_move (suc n) g = omega (arith, sum_move n g)

-- a term that sees only remainders modulo q has the same sum over a range of q numbers that begins at t
pub sum_shift : (q t : ℕ) (f : ℕ → ℕ) → ((x : ℕ) → f x ≡ f (x % q)) → sum q (λ x. f (x + t)) ≡ sum q f
sum_shift q zero f h = sum_ext q _ f (λ x l. ap f (omega arith))
sum_shift q (suc t) f h =
    sum_ext q _ (λ x. f (suc x + t)) (λ x l. ap f (omega arith)) ∙ (omega (arith, sum_move q (λ x. f (x + t)), around) ∙ sum_shift q t f h)
  where
    around : f (0 + t) ≡ f (q + t)
    around = ap f (omega arith) ∙ (h t ∙ (ap f (sym (add-mod_left q t)) ∙ sym (h (q + t))))

-- Sums over all vectors: a larger term gives a larger sum. The terms are compared only at the vectors of length d with entries below q
pub sums_monotone_within :
    (q d : ℕ) (f g : List ℕ → ℕ) → ((w : List ℕ) → length w ≡ d → Below q w → f w ≤ g w) → sums q d f ≤ sums q d g
unfolding sums
sums_monotone_within q zero f g h = h [] refl tt
sums_monotone_within q (suc d) f g h =
    sum_monotone q _ _ (λ x l. sums_monotone_within q d _ _ (λ w e b. h (x ∷ w) (ap suc e) (l, b)))

pub sums_monotone : SumsMonotone
sums_monotone q d f g h = sums_monotone_within q d f g (λ w e b. h w)

-- equal terms give equal sums
pub sums_ext_within :
    (q d : ℕ) (f g : List ℕ → ℕ) → ((w : List ℕ) → length w ≡ d → Below q w → f w ≡ g w) → sums q d f ≡ sums q d g
unfolding sums
sums_ext_within q zero f g h = h [] refl tt
sums_ext_within q (suc d) f g h =
    sum_ext q _ _ (λ x l. sums_ext_within q d _ _ (λ w e b. h (x ∷ w) (ap suc e) (l, b)))

pub sums_ext : (q d : ℕ) (f g : List ℕ → ℕ) → ((w : List ℕ) → f w ≡ g w) → sums q d f ≡ sums q d g
sums_ext q d f g h = sums_ext_within q d f g (λ w e b. h w)

-- the sum of sums is the sum
pub sums_additive : SumsAdditive
unfolding sums
sums_additive q zero f g = refl
sums_additive q (suc d) f g = sum_ext q _ _ (λ x l. sums_additive q d _ _) ∙ sum_additive q _ _

-- a constant is taken q ^ d times
pub sums_constant : SumsConstant
unfolding sums
sums_constant q zero c = sym (mul-one c) ∙ ap (λ (r : ℕ). c * r) (sym (pow-zero q))
sums_constant q (suc d) c =
    sum_ext q _ _ (λ x l. sums_constant q d c)
    ∙ (sum_constant q (c * q ^ d) ∙ (mul_assoc c (q ^ d) q ∙ ap (λ (r : ℕ). c * r) (sym (pow-suc q d))))

-- a factor comes out
pub sums_scale : (q d k : ℕ) (f : List ℕ → ℕ) → sums q d (λ w. k * f w) ≡ k * sums q d f
unfolding sums
sums_scale q zero k f = refl
sums_scale q (suc d) k f = sum_ext q _ _ (λ x l. sums_scale q d k (λ w. f (x ∷ w))) ∙ sum_scale q k _

-- a sum over a range and a sum over vectors change places
pub sum_sums_swap : (n q d : ℕ) (f : ℕ → List ℕ → ℕ) → sum n (λ x. sums q d (λ w. f x w)) ≡ sums q d (λ w. sum n (λ x. f x w))
unfolding sums
sum_sums_swap n q zero f = refl
sum_sums_swap n q (suc d) f = sum_swap n q _ ∙ sum_ext q _ _ (λ y l. sum_sums_swap n q d (λ x w. f x (y ∷ w)))

-- the order of two sums does not matter
pub sums_swap : SumsSwap
unfolding sums
sums_swap q zero e f = refl
sums_swap q (suc d) e f =
    sum_ext q _ _ (λ x l. sums_swap q d e (λ w v. f (x ∷ w) v))
    ∙ sum_sums_swap q q e (λ x v. sums q d (λ w. f (x ∷ w) v))

-- a term that sees only remainders has the same sum over the shifted vectors
pub sums_shift : SumsShift
unfolding sums along remainders
sums_shift q t [] f h = refl
sums_shift q t (y ∷ v) f h =
    sum_ext q _ _ (λ x l. sums_shift q t v (λ w. f ((x + t * y) ∷ w)) (λ a b e. h _ _ (ap (λ r. (x + t * y) % q ∷ r) e)))
    ∙ sum_shift q (t * y) (λ x. sums q (length v) (λ w. f (x ∷ w))) reduced
  where
    reduced : (x : ℕ) → sums q (length v) (λ w. f (x ∷ w)) ≡ sums q (length v) (λ w. f (x % q ∷ w))
    reduced x = sums_ext q (length v) _ _ (λ w. h _ _ (ap (λ r. r ∷ remainders q w) (sym (mod-mod x q))))

-- a test that passes wherever another does has the larger bit
bit_monotone : (a b : Bool) → (a ≡ true → b ≡ true) → bit a ≤ bit b
unfolding bit
bit_monotone true b h = le_of_eq (ap bit (sym (h refl)))
bit_monotone false b h = zero-le

-- so it is passed by as many vectors or more
pub counts_monotone_within :
    (q d : ℕ) (P R : List ℕ → Bool) → ((w : List ℕ) → length w ≡ d → Below q w → P w ≡ true → R w ≡ true)
    → counts q d P ≤ counts q d R
unfolding counts
counts_monotone_within q d P R h = sums_monotone_within q d _ _ (λ w e b. bit_monotone (P w) (R w) (h w e b))

pub counts_monotone : (q d : ℕ) (P R : List ℕ → Bool) → ((w : List ℕ) → P w ≡ true → R w ≡ true) → counts q d P ≤ counts q d R
counts_monotone q d P R h = counts_monotone_within q d P R (λ w e b. h w)

pub count_monotone : (n : ℕ) (P R : ℕ → Bool) → ((x : ℕ) → x < n → P x ≡ true → R x ≡ true) → count n P ≤ count n R
unfolding count
count_monotone n P R h = sum_monotone n _ _ (λ x l. bit_monotone (P x) (R x) (h x l))

-- a bit is at most 1
bit_one : (a : Bool) → bit a ≤ 1
unfolding bit
bit_one true = le_refl 1
bit_one false = zero-le

-- no more pass a test than there are
pub counts_all : (q d : ℕ) (P : List ℕ → Bool) → counts q d P ≤ q ^ d
unfolding counts
counts_all q d P =
    le_trans (sums_monotone q d _ (λ w. 1) (λ w. bit_one (P w))) (le_of_eq (sums_constant q d 1 ∙ one-mul (q ^ d)))

pub count_all : (q : ℕ) (P : ℕ → Bool) → count q P ≤ q
unfolding count
count_all q P = le_trans (sum_monotone q _ (λ x. 1) (λ x l. bit_one (P x))) (le_of_eq (sum_constant q 1 ∙ one-mul q))

-- a test that fails everywhere is passed by none
count_none : (n : ℕ) (P : ℕ → Bool) → ((x : ℕ) → x < n → P x ≡ false) → count n P ≡ 0
unfolding count bit
count_none n P h = sum_ext n _ (λ x. 0) (λ x l. ap bit (h x l)) ∙ (sum_constant n 0 ∙ omega arith)

-- a test that no two different numbers pass is passed by one at most
pub count_at_most_one :
    (n : ℕ) (P : ℕ → Bool) → ((x y : ℕ) → x < n → y < n → P x ≡ true → P y ≡ true → x ≡ y) → count n P ≤ 1
unfolding count sum bit
count_at_most_one zero P h = zero-le
count_at_most_one (suc n) P h = split (P n) refl (count_at_most_one n P (λ x y lx ly. h x y (le_step lx) (le_step ly)))
  where
    others_fail : P n ≡ true → (x : ℕ) → x < n → P x ≡ false
    others_fail e x l = fails (P x) refl
      where
        fails : (b : Bool) → P x ≡ b → b ≡ false
        fails true ex = absurd (ne_of_lt l (h x n (le_step l) (le_refl (suc n)) ex e))
        fails false ex = refl

    split : (b : Bool) → P n ≡ b → count n P ≤ 1 → count n P + bit (P n) ≤ 1
    split true e before = omega (arith, count_none n P (others_fail e), ap bit e)
    split false e before = omega (arith, ap bit e)

-- one of two tests passes at most as often as the first and the second
bit_union : (a b : Bool) → bit (a || b) ≤ bit a + bit b
unfolding bit
bit_union true b = omega arith
bit_union false b = omega arith

pub union_bound : UnionBound
unfolding counts
union_bound q d P R =
    le_trans (sums_monotone q d _ (λ w. bit (P w) + bit (R w)) (λ w. bit_union (P w) (R w)))
    (le_of_eq (sums_additive q d (λ w. bit (P w)) (λ w. bit (R w))))

-- where a sum is below c * n, a term is below c
pub sum_witness : (n c : ℕ) (f : ℕ → ℕ) → sum n f < c * n → (x : ℕ) × (x < n) × (f x < c)
unfolding sum
sum_witness zero c f l = absurd (omega arith)
sum_witness (suc n) c f l = split (dec_lt (f n) c) (sum_witness n c f)
  where
    split : Dec (f n < c) → (sum n f < c * n → (x : ℕ) × (x < n) × (f x < c)) → (x : ℕ) × (x < suc n) × (f x < c)
    split (yes b) before = (n, le_refl (suc n), b)
    split (no b) before = let (x, below, small) = before (omega arith) in (x, le_step below, small)

-- a bit below 1 is of a test that fails
bit_false : (a : Bool) → bit a < 1 → a ≡ false
unfolding bit
bit_false true l = absurd (omega arith)
bit_false false l = refl

-- where fewer than all vectors pass a test, there is one that fails it
pub witness : Witness
unfolding counts sums
witness q zero P l = ([], refl, tt, bit_false (P []) (lt_of_lt_of_le l (le_of_eq (pow-zero q))))
witness q (suc d) P l =
    let (x, below, fewer) = sum_witness q (q ^ d) (λ x. counts q d (λ w. P (x ∷ w))) (lt_of_lt_of_le l (le_of_eq (pow-suc q d))) in
    let (w, size, entries, fails) = witness q d (λ w. P (x ∷ w)) fewer in
    (x ∷ w, ap suc size, (below, entries), fails)
