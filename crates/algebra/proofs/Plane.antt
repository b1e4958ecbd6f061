-- How many vectors lie in a plane modulo a prime q: a form with a coefficient that is not 0 takes the value 0 at no more than one in q
-- vectors, and two forms with different coefficients, each with any constant added, agree at no more than one in q.
-- Assumes nothing.
use Prim.Native.Nat.{ℕ, zero, suc, ◌+◌, ◌*◌, ◌^◌, ◌%◌, ◌<◌, ◌≤◌}
use mathlib.Core.Path.{◌≡◌, refl, sym, ◌∙◌, ap, ap₂}
use mathlib.Core.Logic.{◌⊎◌, inl, inr, ◌≢◌}
use mathlib.Core.Bool.{Bool, true}
use mathlib.Core.List.{List, [], ◌∷◌}
use native.Mathlib.Nat.{eq-zero-or-pos, ne_of_gt, le_trans, le_of_eq, pow-suc, pow-succ', one-mul, suc_inj, mul-le-mul_left}
use native.Mathlib.Omega.{arith}
use lib.Dec.{eqb}
use lib.ListN.{length}
use borrow.Author.Tests.{eqb-true, eq-eqb}
use Rattle.algebra.specs.Sum.{bit, count, sums, counts}
use Rattle.algebra.specs.Modulo.{Same}
use Rattle.algebra.specs.Prime.{Prime}
use Rattle.algebra.specs.Vector.{inner, along, remainders, AllZero}
use Rattle.algebra.specs.Statements.{PlaneBound}
use Rattle.algebra.proofs.Euclid.{zero_product}
use Rattle.algebra.proofs.Modulo.{same_of_eq, same_refl, same_sym, same_trans, same_zero, zero_of_same, same_below}
use Rattle.algebra.proofs.Modulo.{same_add, same_negate, same_of_difference, same_cancel_right}
use Rattle.algebra.proofs.Sum.{sum_monotone, sum_constant, sums_monotone, sums_constant, sums_ext, sum_sums_swap}
use Rattle.algebra.proofs.Sum.{counts_monotone, count_at_most_one}

-- the inner product with x + p · y
pub inner_along : (p : ℕ) (w x y : List ℕ) → length x ≡ length y → inner w (along x p y) ≡ inner w x + p * inner w y
unfolding inner along
inner_along p [] x y e = omega arith
inner_along p (a ∷ w) [] [] e = omega arith
inner_along p (a ∷ w) [] (c ∷ y) e = absurd (omega arith)
inner_along p (a ∷ w) (b ∷ x) [] e = absurd (omega arith)
inner_along p (a ∷ w) (b ∷ x) (c ∷ y) e = omega (arith, inner_along p w x y (suc_inj e))

-- the length of x + p · y
pub length_along : (p : ℕ) (x y : List ℕ) → length x ≡ length y → length (along x p y) ≡ length x
unfolding along
length_along p [] y e = refl
length_along p (b ∷ x) [] e = absurd (omega arith)
length_along p (b ∷ x) (c ∷ y) e = ap suc (length_along p x y (suc_inj e))

-- where x + p · y is 0 modulo p + 1 in every entry, x and y are the same modulo p + 1
remainders_along :
    (p : ℕ) (x y : List ℕ) → length x ≡ length y → AllZero (suc p) (along x p y) → remainders (suc p) x ≡ remainders (suc p) y
unfolding along remainders
remainders_along p [] [] e z = refl
remainders_along p [] (c ∷ y) e z = absurd (omega arith)
remainders_along p (b ∷ x) [] e z = absurd (omega arith)
remainders_along p (b ∷ x) (c ∷ y) e (z, zs) =
    ap₂ (λ (r : ℕ) (rs : List ℕ). r ∷ rs) (same_of_difference p b c (same_zero z)).same (remainders_along p x y (suc_inj e) zs)

-- an empty list has only zeros
empty_zero : (q : ℕ) (d : List ℕ) → length d ≡ 0 → AllZero q d
empty_zero q [] e = tt
empty_zero q (y ∷ d) e = absurd (omega arith)

-- a bound for each first entry gives q times the bound for all
later_bound :
    (q m bound y e : ℕ) (d : List ℕ) → ((x : ℕ) → counts q m (λ w. eqb ((inner w d + (x * y + e)) % q) 0) ≤ bound)
    → counts q (suc m) (λ w. eqb ((inner w (y ∷ d) + e) % q) 0) ≤ bound * q
unfolding counts sums inner
later_bound q m bound y e d h =
    le_trans (sum_monotone q _ (λ x. bound) (λ x l. le_trans (le_of_eq (sums_ext q m _ _ (moved x))) (h x)))
    (le_of_eq (sum_constant q bound))
  where
    moved : (x : ℕ) (w : List ℕ) → bit (eqb ((x * y + inner w d + e) % q) 0) ≡ bit (eqb ((inner w d + (x * y + e)) % q) 0)
    moved x w = ap (λ (t : ℕ). bit (eqb (t % q) 0)) (omega arith)

-- where the forms agree, their difference is 0
difference_zero :
    (p u v : ℕ) (x y w : List ℕ) → length x ≡ length y
    → (u + inner w x) % suc p ≡ (v + inner w y) % suc p → (inner w (along x p y) + (u + p * v)) % suc p ≡ 0
difference_zero p u v x y w size e =
    zero_of_same
    (same_trans (same_of_eq (omega (arith, inner_along p w x y size)))
    (same_trans (same_add agree (same_refl {x = p * (v + inner w y)})) (same_negate p (v + inner w y))))
  where
    agree : Same (suc p) (u + inner w x) (v + inner w y)
    agree = record { same = e }

-- Modulo a prime, where a product that is 0 has a factor that is 0
-- a factor that is not 0 modulo a prime can be cancelled
pub same_cancel_factor : (p x x' y : ℕ) → Prime (suc p) → y % suc p ≢ 0 → Same (suc p) (x * y) (x' * y) → Same (suc p) x x'
same_cancel_factor p x x' y prime nonzero s = split (zero_product (suc p) (x + p * x') y prime (zero_of_same difference))
  where
    difference : Same (suc p) ((x + p * x') * y) 0
    difference = same_trans (same_of_eq (omega arith)) (same_trans (same_add s (same_refl {x = p * (x' * y)})) (same_negate p (x' * y)))

    split : ((x + p * x') % suc p ≡ 0) ⊎ (y % suc p ≡ 0) → Same (suc p) x x'
    split (inl z) = same_of_difference p x x' (same_zero z)
    split (inr z) = absurd (nonzero z)

-- where y is not 0 modulo a prime, x · y + c + e is 0 modulo it for one x below the prime at most
line_bound : (p y c e : ℕ) → Prime (suc p) → y % suc p ≢ 0 → count (suc p) (λ x. eqb ((x * y + c + e) % suc p) 0) ≤ 1
line_bound p y c e prime nonzero = count_at_most_one (suc p) _ (λ x x' l l' z z'. same_below l l' (equal x x' (eqb-true _ _ z) (eqb-true _ _ z')))
  where
    equal : (x x' : ℕ) → (x * y + c + e) % suc p ≡ 0 → (x' * y + c + e) % suc p ≡ 0 → Same (suc p) x x'
    equal x x' z z' =
        same_cancel_factor p x x' y prime nonzero (same_cancel_right c (same_cancel_right e (same_trans (same_zero z) (same_sym (same_zero z')))))

-- the bound where the first coefficient is not 0: for each choice of the other entries there is one first entry at most
first_bound :
    (p k y e : ℕ) (d : List ℕ) → Prime (suc p) → y % suc p ≢ 0
    → counts (suc p) (suc k) (λ w. eqb ((inner w (y ∷ d) + e) % suc p) 0) ≤ suc p ^ k
unfolding count counts sums inner
first_bound p k y e d prime nonzero =
    le_trans (le_of_eq (sum_sums_swap (suc p) (suc p) k _))
    (le_trans (sums_monotone (suc p) k _ (λ w. 1) (λ w. line_bound p y (inner w d) e prime nonzero))
    (le_of_eq (sums_constant (suc p) k 1 ∙ one-mul (suc p ^ k))))

-- the bound modulo p + 1, by the first coefficient that is not 0
plane_bound_suc :
    (p k e : ℕ) (d : List ℕ) → Prime (suc p) → length d ≡ suc k → ¬ AllZero (suc p) d
    → counts (suc p) (suc k) (λ w. eqb ((inner w d + e) % suc p) 0) ≤ suc p ^ k
plane_bound_suc p k e [] prime size nonzero = absurd (nonzero tt)
plane_bound_suc p zero e (y ∷ d) prime size nonzero =
    first_bound p zero y e d prime (λ z. nonzero (z, empty_zero (suc p) d (suc_inj size)))
plane_bound_suc p (suc k) e (y ∷ d) prime size nonzero =
    split (eq-zero-or-pos (y % suc p)) (λ others x. plane_bound_suc p k (x * y + e) d prime (suc_inj size) others)
  where
    split :
        (y % suc p ≡ 0) ⊎ (0 < y % suc p)
        → (¬ AllZero (suc p) d → (x : ℕ) → counts (suc p) (suc k) (λ w. eqb ((inner w d + (x * y + e)) % suc p) 0) ≤ suc p ^ k)
        → counts (suc p) (suc (suc k)) (λ w. eqb ((inner w (y ∷ d) + e) % suc p) 0) ≤ suc p ^ suc k
    split (inl z) rest =
        le_trans (later_bound (suc p) (suc k) (suc p ^ k) y e d (rest (λ zs. nonzero (z, zs)))) (le_of_eq (sym (pow-suc (suc p) k)))
    split (inr positive) rest = first_bound p (suc k) y e d prime (ne_of_gt positive)

-- at most q ^ k of the q ^ (k + 1) vectors
pub plane_bound : PlaneBound
plane_bound zero k e d prime size nonzero = absurd (omega (arith, prime.two))
plane_bound (suc p) k e d prime size nonzero = plane_bound_suc p k e d prime size nonzero

-- two forms with coefficients that differ modulo q, with any constants added, agree at no more than one in q vectors
pub forms_agree_bound :
    (q d u v : ℕ) (x y : List ℕ) → Prime q → length x ≡ d → length y ≡ d → remainders q x ≢ remainders q y
    → q * counts q d (λ w. eqb ((u + inner w x) % q) ((v + inner w y) % q)) ≤ q ^ d
forms_agree_bound zero d u v x y prime sx sy differ = absurd (omega (arith, prime.two))
forms_agree_bound (suc p) d u v x y prime sx sy differ = by_length d (length_along p x y (sx ∙ sym sy) ∙ sx)
  where
    nonzero : ¬ AllZero (suc p) (along x p y)
    nonzero z = differ (remainders_along p x y (sx ∙ sym sy) z)

    test : List ℕ → Bool
    test w = eqb ((u + inner w x) % suc p) ((v + inner w y) % suc p)

    in_plane : (w : List ℕ) → test w ≡ true → eqb ((inner w (along x p y) + (u + p * v)) % suc p) 0 ≡ true
    in_plane w agrees = eq-eqb _ 0 (difference_zero p u v x y w (sx ∙ sym sy) (eqb-true _ _ agrees))

    by_length : (n : ℕ) → length (along x p y) ≡ n → suc p * counts (suc p) n test ≤ suc p ^ n
    by_length zero size = absurd (nonzero (empty_zero (suc p) (along x p y) size))
    by_length (suc k) size =
        le_trans
        (mul-le-mul_left (suc p) (le_trans (counts_monotone (suc p) (suc k) test _ in_plane)
        (plane_bound_suc p k (u + p * v) (along x p y) prime size nonzero)))
        (le_of_eq (sym (pow-succ' (suc p) k)))
