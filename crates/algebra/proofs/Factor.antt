-- The factors of a shuffle as linear forms of the challenge, without subtraction: r − ⟨s, x⟩ is r + p · ⟨s, x⟩ modulo q = p + 1. Along a
-- line w + t · v of challenges a factor is its value at w plus t times its value at v, and products see only the remainders of a challenge.
-- Assumes nothing.
use Prim.Native.Nat.{ℕ, zero, suc, ◌+◌, ◌*◌, ◌%◌, ◌≤◌, ◌<◌}
use mathlib.Core.Path.{◌≡◌, refl, sym, ◌∙◌, ap, ap₂}
use mathlib.Core.List.{List, [], ◌∷◌, map, nil≢cons, cons≢nil, head-eq_of_cons-eq, tail-eq_of_cons-eq}
use native.Mathlib.Nat.{mod-eq_of_lt, mod-lt, zero-lt-suc}
use native.Mathlib.Omega.{arith}
use lib.Dec.{eqb}
use lib.ListN.{length, replicate}
use Rattle.algebra.specs.Modulo.{Same, times}
use Rattle.algebra.specs.Prime.{multiply}
use Rattle.algebra.specs.Vector.{inner, along, remainders, Below}
use Rattle.algebra.specs.Shuffle.{factor, product, balances}
use Rattle.algebra.proofs.Modulo.{same_refl, same_trans, same_mod, same_add, same_mul, same_minus}

-- entries below q are their own remainders
pub remainders_below : (q : ℕ) (x : List ℕ) → Below q x → remainders q x ≡ x
unfolding remainders
remainders_below q [] b = refl
remainders_below q (a ∷ x) b = ap₂ {C = List ℕ} (λ r l. r ∷ l) (mod-eq_of_lt b.0) (remainders_below q x b.1)

-- the inner product along a line
pub along_inner : (w v x : List ℕ) (t : ℕ) → length w ≡ length v → inner (along w t v) x ≡ inner w x + t * inner v x
unfolding inner along
along_inner [] [] x t e = omega arith
along_inner [] (b ∷ v) x t e = absurd (omega arith)
along_inner (a ∷ w) [] x t e = absurd (omega arith)
along_inner (a ∷ w) (b ∷ v) [] t e = omega arith
along_inner (a ∷ w) (b ∷ v) (c ∷ x) t e = omega (arith, along_inner w v x t (omega arith))

-- the inner product with a vector of zeros
pub inner_zeros : (k : ℕ) (x : List ℕ) → inner (replicate k 0) x ≡ 0
unfolding inner
inner_zeros zero x = refl
inner_zeros (suc k) [] = refl
inner_zeros (suc k) (a ∷ x) = omega (arith, inner_zeros k x)

-- the inner product with a multiple of a vector
pub inner_scale : (p : ℕ) (s x : List ℕ) → inner s (map (λ a. p * a) x) ≡ p * inner s x
unfolding inner
inner_scale p [] x = omega arith
inner_scale p (r ∷ s) [] = omega arith
inner_scale p (r ∷ s) (a ∷ x) = omega (arith, inner_scale p s x)

-- the inner product sees only the remainders of a vector
pub inner_same : (q : ℕ) (w v x : List ℕ) → remainders q w ≡ remainders q v → Same q (inner w x) (inner v x)
unfolding inner remainders
inner_same q [] [] x e = same_refl
inner_same q [] (b ∷ v) x e = absurd (nil≢cons e)
inner_same q (a ∷ w) [] x e = absurd (cons≢nil e)
inner_same q (a ∷ w) (b ∷ v) [] e = same_refl
inner_same q (a ∷ w) (b ∷ v) (c ∷ x) e =
    same_add (same_mul (record { same = head-eq_of_cons-eq e }) same_refl) (inner_same q w v x (tail-eq_of_cons-eq e))

-- the factor of the vector x at a challenge, as a linear form of the challenge
unfoldable pub form : ℕ → List ℕ → List ℕ → ℕ
form p [] x = 0
form p (r ∷ s) x = r + p * inner s x

-- the form as an inner product
pub form_inner : (p : ℕ) (c x : List ℕ) → form p c x ≡ inner c (1 ∷ map (λ a. p * a) x)
unfolding form inner
form_inner p [] x = refl
form_inner p (r ∷ s) x = omega (arith, inner_scale p s x)

-- at the challenge 1, 0, …, 0 every form is 1
pub form_one : (p k : ℕ) (x : List ℕ) → form p (1 ∷ replicate k 0) x ≡ 1
unfolding form
form_one p k x = omega (arith, ap (λ (t : ℕ). p * t) (inner_zeros k x))

-- the form is the factor modulo q,
pub factor_form : (p : ℕ) (c x : List ℕ) → Same (suc p) (factor (suc p) c x) (form p c x)
unfolding factor form
factor_form p [] x = same_refl
factor_form p (r ∷ s) x = same_minus p r (inner s x)

-- along a line it is its value at w plus t times its value at v,
pub form_along : (p : ℕ) (w v x : List ℕ) (t : ℕ) → length w ≡ length v → form p (along w t v) x ≡ form p w x + t * form p v x
unfolding form along
form_along p [] [] x t e = omega arith
form_along p [] (b ∷ v) x t e = absurd (omega arith)
form_along p (a ∷ w) [] x t e = absurd (omega arith)
form_along p (a ∷ w) (b ∷ v) x t e = omega (arith, ap (λ (u : ℕ). p * u) (along_inner w v x t (omega arith)))

-- and it sees only the remainders of a challenge
pub form_same : (p : ℕ) (w v x : List ℕ) → remainders (suc p) w ≡ remainders (suc p) v → Same (suc p) (form p w x) (form p v x)
unfolding form remainders
form_same p [] [] x e = same_refl
form_same p [] (b ∷ v) x e = absurd (nil≢cons e)
form_same p (a ∷ w) [] x e = absurd (cons≢nil e)
form_same p (a ∷ w) (b ∷ v) x e =
    same_add (record { same = head-eq_of_cons-eq e }) (same_mul (same_refl {x = p}) (inner_same (suc p) w v x (tail-eq_of_cons-eq e)))

module _ (p : ℕ) where
  -- the product of the forms of a list of vectors
  unfoldable pub forms : List ℕ → List (List ℕ) → ℕ
  forms c xs = multiply (map (λ x. form p c x) xs)

  -- the product sees only the remainders of a challenge
  forms_same : (w v : List ℕ) (xs : List (List ℕ)) → remainders (suc p) w ≡ remainders (suc p) v → Same (suc p) (forms w xs) (forms v xs)
  unfolding forms multiply
  forms_same w v [] e = same_refl
  forms_same w v (x ∷ xs) e = same_mul (form_same p w v x e) (forms_same w v xs e)

  -- the product of the factors is the same modulo q,
  product_same : (c : List ℕ) (xs : List (List ℕ)) → Same (suc p) (product (suc p) c xs) (forms c xs)
  unfolding product times forms multiply
  product_same c [] = same_refl
  product_same c (x ∷ xs) = same_trans (same_mod (suc p) _) (same_mul (factor_form p c x) (product_same c xs))

  -- and it is reduced,
  product_below : (c : List ℕ) (xs : List (List ℕ)) → 2 ≤ suc p → product (suc p) c xs < suc p
  unfolding product times
  product_below c [] two = two
  product_below c (x ∷ xs) two = mod-lt _ (zero-lt-suc p)

  -- so it is the remainder of the product of the forms
  pub product_forms : (c : List ℕ) (xs : List (List ℕ)) → 2 ≤ suc p → product (suc p) c xs ≡ forms c xs % suc p
  product_forms c xs two = sym (mod-eq_of_lt (product_below c xs two)) ∙ (product_same c xs).same

  pub balances_forms :
      (c : List ℕ) (xs ys : List (List ℕ)) → 2 ≤ suc p → balances (suc p) c xs ys ≡ eqb (forms c xs % suc p) (forms c ys % suc p)
  unfolding balances
  balances_forms c xs ys two = ap₂ eqb (product_forms c xs two) (product_forms c ys two)

  -- whether two products are equal is seen from the remainders of a challenge
  pub balances_remainders :
      (w v : List ℕ) (xs ys : List (List ℕ)) → 2 ≤ suc p → remainders (suc p) w ≡ remainders (suc p) v
      → balances (suc p) w xs ys ≡ balances (suc p) v xs ys
  balances_remainders w v xs ys two e =
      balances_forms w xs ys two ∙ (ap₂ eqb (forms_same w v xs e).same (forms_same w v ys e).same ∙ sym (balances_forms v xs ys two))
