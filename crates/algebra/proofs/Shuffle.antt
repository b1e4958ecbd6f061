-- The shuffle's bound, sharp: two lists of at most m vectors of length k hold the same vectors
-- equally often, or their products agree at no more than m · q ^ k of the q ^ (k + 1) challenges.
-- Assumes nothing.
use Prim.Native.Nat.{ℕ, zero, suc, ◌+◌, ◌*◌, ◌^◌, ◌%◌, ◌≤◌, ◌<◌}
use mathlib.Core.Path.{◌≡◌, refl, sym, ◌∙◌, ap, ap₂, subst, fun_ext}
use mathlib.Core.Logic.{◌⊎◌, inl, inr, ⊎_elim, ⊎_map, ◌≢◌}
use mathlib.Core.Bool.{Bool, true, false, ◌||◌, or-true}
use mathlib.Core.List.{List, [], ◌∷◌, ◌++◌, map}
use native.Mathlib.Nat.{le_trans, le_of_eq, le_refl, mul-le-mul_right, mul-le-mul_left, pow-suc, mod-eq_of_lt, zero-lt-suc, eq-zero-or-pos, add-le-add, mul_comm, add-zero}
use native.Mathlib.Omega.{arith}
use native.Mathlib.Decide.{dec_lt, ℕ_discrete}
use lib.Dec.{eqb}
use lib.ListN.{length, replicate, length-replicate, length-map}
use borrow.Author.Tests.{eqb-true, eqb-false, eq-eqb}
use Rattle.algebra.specs.Sum.{bit, count, counts}
use Rattle.algebra.specs.Modulo.{Same}
use Rattle.algebra.specs.Prime.{Prime, multiply}
use Rattle.algebra.specs.Vector.{inner, along, remainders, Below, AllZero, Wide}
use Rattle.algebra.specs.Multiset.{EquallyOften}
use Rattle.algebra.specs.Shuffle.{balances}
use Rattle.algebra.specs.Statements.{ShuffleBound}
use Rattle.algebra.proofs.Modulo.{same_refl, same_sym, same_trans, same_of_eq, same_add, same_mul, same_zero, zero_of_same, same_negate, same_of_difference}
use Rattle.algebra.proofs.Euclid.{zero_product}
use Rattle.algebra.proofs.Sum.{sums_constant, counts_monotone, counts_all, union_bound, witness}
use Rattle.algebra.proofs.Plane.{plane_bound, forms_agree_bound, same_cancel_factor}
use Rattle.algebra.proofs.Line.{line, lines_agree_bound, lines_agree_bound_unequal}
use Rattle.algebra.proofs.Multiset.{Present, Absent, without, often_without, often_cons, often_sym, often_trans, length_without, find_vector}
use Rattle.algebra.proofs.Honest.{product_without}
use Rattle.algebra.proofs.Average.{average_bound}
use Rattle.algebra.proofs.Factor.{remainders_below, form, forms, form_along, form_inner, form_one, product_forms, balances_forms, balances_remainders}

-- a test that no vector passes
counts_none : (q d : ℕ) (P : List ℕ → Bool) → ((w : List ℕ) → P w ≡ true → ⊥) → counts q d P ≡ 0
unfolding counts bit
counts_none q d P n = omega (arith, counts_monotone q d P (λ w. false) (λ w e. absurd (n w e)), sums_constant q d 0)

-- the number of challenges at which the products of two lists of vectors are equal
abbrev agreements : ℕ → ℕ → List (List ℕ) → List (List ℕ) → ℕ
agreements q k xs ys = counts q (suc k) (λ c. balances q c xs ys)

-- every vector of a list differs from x modulo q
abbrev Differ : ℕ → List ℕ → List (List ℕ) → Type 0
Differ q x [] = Unit {0}
Differ q x (y ∷ ys) = (remainders q x ≢ remainders q y) × Differ q x ys

module _ (p : ℕ) (prime : Prime (suc p)) where
  -- the product of the forms along a line of challenges
  line_forms :
      (w v : List ℕ) (t : ℕ) (xs : List (List ℕ)) → length w ≡ length v
      → forms p (along w t v) xs ≡ line (λ x. form p w x) (λ x. form p v x) xs t
  unfolding forms line multiply
  line_forms w v t [] e = refl
  line_forms w v t (x ∷ xs) e = ap₂ (λ (a b : ℕ). a * b) (form_along p w v x t e) (line_forms w v t xs e)

  -- whether two products of factors α x + t · β x are equal modulo q
  abbrev meet : (List ℕ → ℕ) → (List ℕ → ℕ) → List (List ℕ) → List (List ℕ) → ℕ → Bool
  meet α β xs ys t = eqb (line α β xs t % suc p) (line α β ys t % suc p)

  -- along a line the products of two lists are equal where two such products are
  line_balances :
      (w v : List ℕ) (t : ℕ) (xs ys : List (List ℕ)) → length w ≡ length v
      → balances (suc p) (along w t v) xs ys ≡ meet (λ x. form p w x) (λ x. form p v x) xs ys t
  line_balances w v t xs ys e =
      balances_forms p (along w t v) xs ys prime.two
      ∙ ap₂ (λ (a b : ℕ). eqb (a % suc p) (b % suc p)) (line_forms w v t xs e) (line_forms w v t ys e)

  -- products that are equal at no more than m points of each line in the direction v are equal at no more than m · q ^ k challenges
  direction_bound :
      (k m : ℕ) (v : List ℕ) (xs ys : List (List ℕ)) → length v ≡ suc k
      → ((α : List ℕ → ℕ) → count (suc p) (meet α (λ x. form p v x) xs ys) ≤ m)
      → agreements (suc p) k xs ys ≤ m * suc p ^ k
  direction_bound k m v xs ys size agree =
      average_bound (suc p) k m v _ (zero-lt-suc p) size (λ x y e. balances_remainders p x y xs ys prime.two e)
      (λ w e. le_trans (le_of_eq (ap (count (suc p)) (fun_ext (λ t. line_balances w v t xs ys e)))) (agree (λ x. form p w x)))

  -- two lists of equal length, whose products differ at one challenge v
  point_bound :
      (k : ℕ) (v : List ℕ) (xs ys : List (List ℕ)) → length v ≡ suc k → length xs ≡ length ys
      → ¬ Same (suc p) (forms p v xs) (forms p v ys)
      → agreements (suc p) k xs ys ≤ length xs * suc p ^ k
  unfolding forms
  point_bound k v xs ys size e differ =
      direction_bound k (length xs) v xs ys size (λ α. lines_agree_bound (suc p) (length xs) α _ xs ys prime refl (sym e) differ)

  -- at the challenge 1, 0, …, 0 every product is 1
  forms_one : (k : ℕ) (xs : List (List ℕ)) → forms p (1 ∷ replicate k 0) xs ≡ 1
  unfolding forms multiply
  forms_one k [] = refl
  forms_one k (x ∷ xs) = ap₂ (λ (a b : ℕ). a * b) (form_one p k x) (forms_one k xs)

  -- two lists of different length
  lengths_bound :
      (k m : ℕ) (xs ys : List (List ℕ)) → length xs ≤ m → length ys ≤ m → length xs ≢ length ys
      → agreements (suc p) k xs ys ≤ m * suc p ^ k
  unfolding forms
  lengths_bound k m xs ys lx ly ne =
      direction_bound k m (1 ∷ replicate k 0) xs ys (ap suc (length-replicate k 0))
      (λ α. lines_agree_bound_unequal (suc p) m α _ xs ys prime lx ly ne (nonzero xs) (nonzero ys))
    where
      nonzero : (zs : List (List ℕ)) → ¬ Same (suc p) (forms p (1 ∷ replicate k 0) zs) 0
      nonzero zs s = omega (arith, sym (mod-eq_of_lt prime.two), zero_of_same (same_trans (same_of_eq (sym (forms_one k zs))) s))

  -- the factor of one vector is 0 at no more than q ^ k challenges
  vanishing_bound : (k : ℕ) (x : List ℕ) → length x ≡ k → counts (suc p) (suc k) (λ c. eqb (form p c x % suc p) 0) ≤ suc p ^ k
  vanishing_bound k x size =
      le_trans (counts_monotone (suc p) (suc k) _ _ (λ c e. eq-eqb _ _ (ap (λ (t : ℕ). t % suc p) (plain c) ∙ eqb-true _ _ e)))
      (plane_bound (suc p) k 0 (1 ∷ map (λ a. p * a) x) prime (ap suc (length-map x (λ a. p * a) ∙ size)) nonzero)
    where
      nonzero : ¬ AllZero (suc p) (1 ∷ map (λ a. p * a) x)
      nonzero z = omega (arith, sym (mod-eq_of_lt prime.two), z.0)

      plain : (c : List ℕ) → inner c (1 ∷ map (λ a. p * a) x) + 0 ≡ form p c x
      plain c = add-zero _ ∙ sym (form_inner p c x)

  -- where a vector stands in both lists, the products are equal only where its factor is 0 or the
  -- products without it are equal
  balances_without :
      (c : List ℕ) (x : List ℕ) (xs ys : List (List ℕ)) (e : Present x ys) → balances (suc p) c (x ∷ xs) ys ≡ true
      → (eqb (form p c x % suc p) 0 || balances (suc p) c xs (without e)) ≡ true
  unfolding balances forms multiply
  balances_without c x xs ys e b = split (eq-zero-or-pos (form p c x % suc p))
    where
      equal : Same (suc p) (form p c x * forms p c xs) (form p c x * forms p c (without e))
      equal =
          record {
            same =
                sym (product_forms p c (x ∷ xs) prime.two)
                ∙ (eqb-true _ _ b ∙ (product_without (suc p) c e ∙ product_forms p c (x ∷ without e) prime.two));
          }

      rest : 0 < form p c x % suc p → Same (suc p) (forms p c xs) (forms p c (without e))
      rest n =
          same_cancel_factor p _ _ (form p c x) prime (λ z. omega arith)
          (same_trans (same_of_eq (mul_comm (forms p c xs) _)) (same_trans equal (same_of_eq (mul_comm _ (forms p c (without e))))))

      split :
          (form p c x % suc p ≡ 0) ⊎ (0 < form p c x % suc p)
          → (eqb (form p c x % suc p) 0 || balances (suc p) c xs (without e)) ≡ true
      split (inl z) = ap (λ (t : Bool). t || balances (suc p) c xs (without e)) (eq-eqb _ _ z)
      split (inr n) =
          ap (λ (t : Bool). eqb (form p c x % suc p) 0 || t)
          (balances_forms p c xs (without e) prime.two ∙ eq-eqb _ _ (rest n).same)
          ∙ or-true (eqb (form p c x % suc p) 0)

  -- so they are equal at no more than q ^ k challenges beyond
  without_bound :
      (k : ℕ) (x : List ℕ) (xs ys : List (List ℕ)) (e : Present x ys) → length x ≡ k
      → agreements (suc p) k (x ∷ xs) ys
      ≤ suc p ^ k + agreements (suc p) k xs (without e)
  without_bound k x xs ys e size =
      le_trans (counts_monotone (suc p) (suc k) _ _ (λ c. balances_without c x xs ys e))
      (le_trans (union_bound (suc p) (suc k) _ _) (add-le-add (vanishing_bound k x size) (le_refl _)))

  -- x and y of length k that differ modulo q: at no more than one in q choices of s is the factor of y 0 at r = ⟨s, x⟩
  collision_bound :
      (k : ℕ) (x y : List ℕ) → length x ≡ k → length y ≡ k → remainders (suc p) x ≢ remainders (suc p) y
      → suc p * counts (suc p) k (λ s. eqb (form p (inner s x ∷ s) y % suc p) 0) ≤ suc p ^ k
  unfolding form
  collision_bound k x y sx sy differ =
      le_trans (mul-le-mul_left (suc p) (counts_monotone (suc p) k _ _ (λ s e. eq-eqb _ _ (collide s (eqb-true _ _ e)))))
      (forms_agree_bound (suc p) k 0 0 x y prime sx sy differ)
    where
      collide : (s : List ℕ) → (inner s x + p * inner s y) % suc p ≡ 0 → (0 + inner s x) % suc p ≡ (0 + inner s y) % suc p
      collide s z = (same_add same_refl (same_of_difference p (inner s x) (inner s y) (same_zero z))).same

  -- at r = ⟨s, x⟩ the product of a list of vectors is 0
  abbrev collides : List ℕ → List (List ℕ) → List ℕ → Bool
  collides x ys s = eqb (forms p (inner s x ∷ s) ys % suc p) 0

  -- which it never is of no vector,
  collides_nil : (x s : List ℕ) → collides x [] s ≡ true → ⊥
  unfolding forms multiply
  collides_nil x s e = omega (arith, mod-eq_of_lt prime.two, eqb-true (1 % suc p) 0 e)

  -- and of more vectors only where it is 0 of one of them
  collides_cons :
      (x : List ℕ) (y : List ℕ) (ys : List (List ℕ)) (s : List ℕ) → collides x (y ∷ ys) s ≡ true
      → (eqb (form p (inner s x ∷ s) y % suc p) 0 || collides x ys s) ≡ true
  unfolding forms multiply
  collides_cons x y ys s e = split (zero_product (suc p) (form p (inner s x ∷ s) y) (forms p (inner s x ∷ s) ys) prime (eqb-true _ _ e))
    where
      split :
          (form p (inner s x ∷ s) y % suc p ≡ 0) ⊎ (forms p (inner s x ∷ s) ys % suc p ≡ 0)
          → (eqb (form p (inner s x ∷ s) y % suc p) 0 || collides x ys s) ≡ true
      split (inl z) = ap (λ (t : Bool). t || collides x ys s) (eq-eqb _ _ z)
      split (inr z) =
          let one = eqb (form p (inner s x ∷ s) y % suc p) 0 in
          ap (λ (t : Bool). one || t) (eq-eqb _ _ z) ∙ or-true one

  -- for m vectors that differ from x this happens at no more than m in q choices of s
  collisions_bound :
      (k : ℕ) (x : List ℕ) (ys : List (List ℕ)) → length x ≡ k → Wide (suc p) k ys → Differ (suc p) x ys
      → suc p * counts (suc p) k (collides x ys) ≤ length ys * suc p ^ k
  collisions_bound k x [] sx sy differ = omega (arith, ap (λ (t : ℕ). suc p * t) (counts_none (suc p) k (collides x []) (collides_nil x)))
  collisions_bound k x (y ∷ ys) sx sy differ =
      let one : List ℕ → Bool = λ s. eqb (form p (inner s x ∷ s) y % suc p) 0 in
      let step = counts_monotone (suc p) k (collides x (y ∷ ys)) (λ s. one s || collides x ys s) (collides_cons x y ys) in
      omega (
        arith,
        mul-le-mul_left (suc p) (le_trans step (union_bound (suc p) k one (collides x ys))),
        collision_bound k x y sx sy.0 differ.0,
        collisions_bound k x ys sx sy.2 differ.1,
      )

  -- at r = ⟨s, x⟩ the factor of x is 0
  forms_zero : (s : List ℕ) (x : List ℕ) (xs : List (List ℕ)) → Same (suc p) (forms p (inner s x ∷ s) (x ∷ xs)) 0
  unfolding forms multiply form
  forms_zero s x xs = same_trans (same_mul (same_negate p (inner s x)) same_refl) (same_of_eq (omega arith))

  -- two lists of equal length, where the first vector of one is not in the other: there is a
  -- challenge at which one product is 0 and the other is not, or the lists have q vectors or more
  -- and the bound is trivial
  foreign_bound :
      (k : ℕ) (x : List ℕ) (xs ys : List (List ℕ)) → length x ≡ k → Wide (suc p) k ys → length (x ∷ xs) ≡ length ys → Differ (suc p) x ys
      → agreements (suc p) k (x ∷ xs) ys ≤ length (x ∷ xs) * suc p ^ k
  foreign_bound k x xs ys sx wide size differ = split (dec_lt (counts (suc p) k (collides x ys)) (suc p ^ k))
    where
      split :
          Dec (counts (suc p) k (collides x ys) < suc p ^ k)
          → agreements (suc p) k (x ∷ xs) ys ≤ length (x ∷ xs) * suc p ^ k
      split (yes fewer) =
          let (s, length-s, below, free) = witness (suc p) k (collides x ys) fewer in
          point_bound k (inner s x ∷ s) (x ∷ xs) ys (ap suc length-s) size
          (λ e. eqb-false _ _ free (zero_of_same (same_trans (same_sym e) (forms_zero s x xs))))
      split (no many) =
          let all : suc p ^ k ≤ counts (suc p) k (collides x ys) = omega arith in
          omega (
            arith,
            counts_all (suc p) (suc k) (λ c. balances (suc p) c (x ∷ xs) ys),
            pow-suc (suc p) k,
            mul-le-mul_left (suc p) all,
            collisions_bound k x ys sx wide differ,
            ap (λ (t : ℕ). t * suc p ^ k) size,
          )

module _ (p k : ℕ) (prime : Prime (suc p)) where
  -- different vectors differ modulo q
  differ_absent :
      (x : List ℕ) (ys : List (List ℕ)) → Below (suc p) x → Wide (suc p) k ys → Absent x ys → Differ (suc p) x ys
  differ_absent x [] bx by n = tt
  differ_absent x (y ∷ ys) bx by n = (
    (λ e. n.0 (sym (remainders_below (suc p) _ bx) ∙ (e ∙ remainders_below (suc p) _ by.1))),
    differ_absent x ys bx by.2 n.1,
  )

  -- a list without one of its vectors is still wide
  wide_move : (us : List (List ℕ)) (x : List ℕ) (vs : List (List ℕ)) → Wide (suc p) k (us ++ (x ∷ vs)) → Wide (suc p) k (us ++ vs)
  wide_move [] x vs b = b.2
  wide_move (u ∷ us) x vs b = (b.0, b.1, wide_move us x vs b.2)

  wide_without : {x : List ℕ} {ys : List (List ℕ)} (e : Present x ys) → Wide (suc p) k ys → Wide (suc p) k (without e)
  unfolding without
  wide_without {x} e b = wide_move e.before x e.behind (subst (Wide (suc p) k) e.parts b)

  -- lists of equal length: the first vector is taken out of both, or it stands in one of them only
  equal_lengths_bound :
      (xs ys : List (List ℕ)) → length xs ≡ length ys → Wide (suc p) k xs → Wide (suc p) k ys
      → EquallyOften xs ys ⊎ (agreements (suc p) k xs ys ≤ length xs * suc p ^ k)
  equal_lengths_bound [] [] e bx by = inl (λ weight. refl)
  equal_lengths_bound [] (y ∷ ys) e bx by = absurd (omega arith)
  equal_lengths_bound (x ∷ xs) ys e bx by =
      ⊎_elim
      (λ f. both f (equal_lengths_bound xs (without f) (omega (arith, length_without f)) bx.2 (wide_without f by)))
      (λ n. inr (foreign_bound p prime k x xs ys bx.0 by e (differ_absent x ys bx.1 by n)))
      (find_vector x ys)
    where
      both :
          (f : Present x ys)
          → EquallyOften xs (without f) ⊎ (agreements (suc p) k xs (without f) ≤ length xs * suc p ^ k)
          → EquallyOften (x ∷ xs) ys ⊎ (agreements (suc p) k (x ∷ xs) ys ≤ length (x ∷ xs) * suc p ^ k)
      both f (inl h) = inl (often_trans (x ∷ xs) (x ∷ without f) ys (often_cons x xs (without f) h) (often_sym ys (x ∷ without f) (often_without f)))
      both f (inr h) = inr (omega (arith, h, without_bound p prime k x xs ys f bx.0))

-- two lists of at most m vectors hold the same vectors equally often, or their products agree at no
-- more than m · q ^ k challenges
pub shuffle_bound : ShuffleBound
shuffle_bound zero k m xs ys prime lx ly bx by = absurd (omega (arith, prime.two))
shuffle_bound (suc p) k m xs ys prime lx ly bx by = elim (ℕ_discrete (length xs) (length ys)) [
  | yes e ↦ ⊎_map (λ h. h) (λ b. le_trans b (mul-le-mul_right (suc p ^ k) lx)) (equal_lengths_bound p k prime xs ys e bx by)
  | no n ↦ inr (lengths_bound p prime k m xs ys lx ly n)
]
