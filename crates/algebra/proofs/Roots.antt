-- Roots of polynomials modulo a prime: coefficients that are not all 0, k + 1 of them at most, have at most k roots below q.
-- By division by x − s, as an exact identity over ℕ. So two polynomials with different coefficients agree at no more than k numbers.
-- Assumes nothing.
use Prim.Native.Nat.{ℕ, zero, suc, ◌+◌, ◌*◌, ◌%◌, ◌≤◌, ◌<◌, max}
use mathlib.Core.Path.{◌≡◌, refl, sym, ◌∙◌, ap}
use mathlib.Core.Logic.{◌⊎◌, inl, inr, ⊎_elim, ⊎_map, ◌≢◌}
use mathlib.Core.Bool.{Bool, true, false, false≢true}
use mathlib.Core.List.{List, [], ◌∷◌}
use native.Mathlib.Nat.{le_trans}
use native.Mathlib.Omega.{arith}
use lib.Dec.{eqb}
use lib.ListN.{length, get_or, length-map, get_or-map}
use lib.Seq.{ext_get_or}
use borrow.Author.Tests.{eqb-true, eq-eqb}
use Rattle.algebra.specs.Sum.{sum, bit, count}
use Rattle.algebra.specs.Modulo.{Same}
use Rattle.algebra.specs.Prime.{Prime}
use Rattle.algebra.specs.Vector.{remainders, AllZero}
use Rattle.algebra.specs.Polynomial.{eval, root}
use Rattle.algebra.specs.Statements.{RootsBound}
use Rattle.algebra.proofs.Modulo.{same_of_eq, same_refl, same_sym, same_trans, same_zero, zero_of_same, same_below}
use Rattle.algebra.proofs.Modulo.{same_add, same_mul, same_add_multiple, same_negate, same_of_difference, same_cancel_right}
use Rattle.algebra.proofs.Sum.{count_monotone}
use Rattle.algebra.proofs.Euclid.{zero_product}

-- The values at s of the list and of its tails. Those of cs are the coefficients of the quotient of c ∷ cs by x − s
quotient : List ℕ → ℕ → List ℕ
quotient [] s = []
quotient (c ∷ cs) s = eval (c ∷ cs) s ∷ quotient cs s

-- division by x − s, whose remainder is the value at s, without subtraction
division :
    (c : ℕ) (cs : List ℕ) (s x : ℕ)
    → eval (c ∷ cs) x + s * eval (quotient cs s) x ≡ eval (c ∷ cs) s + x * eval (quotient cs s) x
unfolding eval quotient
division c [] s x = omega arith
division c (d ∷ cs) s x = omega (arith, ap (λ (t : ℕ). x * t) (division d cs s x))

-- the quotient is one shorter than the list c ∷ cs
length_quotient : (cs : List ℕ) (s : ℕ) → length (quotient cs s) ≡ length cs
unfolding quotient
length_quotient [] s = refl
length_quotient (c ∷ cs) s = ap suc (length_quotient cs s)

-- coefficients that are all 0 have the value 0
eval_zero : (q : ℕ) (cs : List ℕ) (x : ℕ) → AllZero q cs → Same q (eval cs x) 0
unfolding eval
eval_zero q [] x z = same_refl
eval_zero q (c ∷ cs) x z =
    same_trans (same_add (same_zero z.0) (same_mul (same_refl {x = x}) (eval_zero q cs x z.1))) (same_of_eq (omega arith))

-- where y and c + s · y are 0, c is 0
zero_of_sum : {q c : ℕ} (s : ℕ) {y : ℕ} → Same q (c + s * y) 0 → Same q y 0 → Same q c 0
zero_of_sum {q} {c} s {y} h z = same_trans (same_sym without) h
  where
    without : Same q (c + s * y) c
    without = same_trans (same_add (same_refl {x = c}) (same_mul (same_refl {x = s}) z)) (same_of_eq (omega arith))

-- coefficients whose values at s, of the list and of its tails, are all 0 are all 0 themselves
quotient_zero : (q : ℕ) (cs : List ℕ) (s : ℕ) → AllZero q (quotient cs s) → AllZero q cs
unfolding quotient eval
quotient_zero q [] s z = tt
quotient_zero q (c ∷ cs) s z =
    let rest = quotient_zero q cs s z.1 in
    (zero_of_same (zero_of_sum s (same_zero z.0) (eval_zero q cs s rest)), rest)

-- x + p · y is 0 modulo p + 1 where x and y are the same
difference_of_same : {p x y : ℕ} → Same (suc p) x y → Same (suc p) (x + p * y) 0
difference_of_same {p} {x} {y} h = same_trans (same_add h same_refl) (same_negate p y)

-- a root other than s is a root of the quotient by x − s
other_root :
    (q c : ℕ) (cs : List ℕ) (s x : ℕ) → Prime q → s < q → x < q
    → Same q (eval (c ∷ cs) s) 0 → Same q (eval (c ∷ cs) x) 0
    → (x ≡ s) ⊎ (eval (quotient cs s) x % q ≡ 0)
other_root zero c cs s x prime ls lx zs zx = absurd (omega arith)
other_root (suc p) c cs s x prime ls lx zs zx =
    ⊎_map (λ e. same_below lx ls (same_of_difference p x s (same_zero e))) (λ e. e)
    (zero_product (suc p) (x + p * s) y prime (zero_of_same (same_cancel_right (eval (c ∷ cs) s) product)))
  where
    y : ℕ
    y = eval (quotient cs s) x

    exact : (x + p * s) * y + eval (c ∷ cs) s ≡ eval (c ∷ cs) x + suc p * (s * y)
    exact = omega (arith, division c cs s x)

    product : Same (suc p) ((x + p * s) * y + eval (c ∷ cs) s) (0 + eval (c ∷ cs) s)
    product =
        same_trans (same_of_eq exact)
        (same_trans (same_add_multiple (suc p) (eval (c ∷ cs) x) (s * y)) (same_trans zx (same_add (same_refl {x = 0}) (same_sym zs))))

-- a test that passes only at s and where another passes, passes once more at most
count_but_one :
    (n s : ℕ) (P R : ℕ → Bool) → ((x : ℕ) → x < n → P x ≡ true → (x ≡ s) ⊎ (R x ≡ true)) → count n P ≤ suc (count n R)
unfolding count sum bit
count_but_one zero s P R h = omega arith
count_but_one (suc n) s P R h = last (P n) (R n) (count_but_one n s P R (λ x l. h x (omega arith))) (h n (omega arith))
  where
    others : n ≡ s → count n P ≤ count n R
    others e = count_monotone n P R (λ x l t. ⊎_elim (λ (d : x ≡ s). absurd (omega arith)) (λ r. r) (h x (omega arith) t))

    last : (b c : Bool) → count n P ≤ suc (count n R) → (b ≡ true → (n ≡ s) ⊎ (c ≡ true)) → count n P + bit b ≤ suc (count n R + bit c)
    last false c before at = omega arith
    last true true before at = omega arith
    last true false before at = omega (arith, others (⊎_elim (λ e. e) (λ e. absurd (false≢true e)) (at refl)))

-- a test passes nowhere, or there is a number at which it passes
count_search : (n : ℕ) (P : ℕ → Bool) → (count n P ≡ 0) ⊎ ((x : ℕ) × (x < n) × (P x ≡ true))
unfolding count sum bit
count_search zero P = inl refl
count_search (suc n) P = last (P n) refl (count_search n P)
  where
    last :
        (b : Bool) → P n ≡ b → (count n P ≡ 0) ⊎ ((x : ℕ) × (x < n) × (P x ≡ true))
        → (count n P + bit (P n) ≡ 0) ⊎ ((x : ℕ) × (x < suc n) × (P x ≡ true))
    last b e (inr f) = inr (f.0, omega (arith, f.1), f.2)
    last true e (inl z) = inr (n, omega arith, e)
    last false e (inl z) = inl (omega (arith, ap bit e))

-- where s is a root, there is at most one root more than the quotient by x − s has,
division_count :
    (q c : ℕ) (cs : List ℕ) (s : ℕ) → Prime q → s < q → root q (c ∷ cs) s ≡ true
    → count q (root q (c ∷ cs)) ≤ suc (count q (root q (quotient cs s)))
unfolding root
division_count q c cs s prime l r =
    count_but_one q s _ _ λ x lx t. ⊎_map (λ e. e) (eq-eqb _ 0) (other_root q c cs s x prime l lx (same_zero (eqb-true _ 0 r)) (same_zero (eqb-true _ 0 t)))

-- and the quotient is not all 0 either
division_nonzero :
    (q c : ℕ) (cs : List ℕ) (s : ℕ) → root q (c ∷ cs) s ≡ true → ¬ AllZero q (c ∷ cs) → ¬ AllZero q (quotient cs s)
unfolding root quotient
division_nonzero q c cs s r n z = n (quotient_zero q (c ∷ cs) s (eqb-true _ 0 r, z))

-- at most k + 1 coefficients, not all 0 modulo q, have at most k roots below q
pub roots_bound : RootsBound
unfolding quotient
roots_bound q zero [] prime l n = absurd (n tt)
roots_bound q (suc k) [] prime l n = absurd (n tt)
roots_bound q zero (c ∷ []) prime l n =
    elim (count_search q (root q (c ∷ []))) [ inl e ↦ omega arith | inr f ↦ absurd (division_nonzero q c [] f.0 f.2 n tt) ]
roots_bound q zero (c ∷ d ∷ cs) prime l n = absurd (omega arith)
roots_bound q (suc k) (c ∷ cs) prime l n =
    elim (count_search q (root q (c ∷ cs))) [
      | inl e ↦ omega arith
      | inr f ↦
          let less = roots_bound q k (quotient cs f.0) prime (omega (arith, length_quotient cs f.0)) (division_nonzero q c cs f.0 f.2 n) in
          omega (arith, division_count q c cs f.0 prime f.1 f.2, less)
    ]

-- the coefficients of the difference modulo p + 1, with zeros behind the shorter list
difference : ℕ → List ℕ → List ℕ → List ℕ
difference p [] [] = []
difference p [] (d ∷ ds) = p * d ∷ difference p [] ds
difference p (c ∷ cs) [] = c ∷ difference p cs []
difference p (c ∷ cs) (d ∷ ds) = (c + p * d) ∷ difference p cs ds

-- its value is the difference of the values
eval_difference : (p : ℕ) (cs ds : List ℕ) (x : ℕ) → eval (difference p cs ds) x ≡ eval cs x + p * eval ds x
unfolding difference eval
eval_difference p [] [] x = omega arith
eval_difference p [] (d ∷ ds) x = omega (arith, ap (λ (t : ℕ). x * t) (eval_difference p [] ds x))
eval_difference p (c ∷ cs) [] x = omega (arith, ap (λ (t : ℕ). x * t) (eval_difference p cs [] x))
eval_difference p (c ∷ cs) (d ∷ ds) x = omega (arith, ap (λ (t : ℕ). x * t) (eval_difference p cs ds x))

-- it is as long as the longer list
length_difference : (p : ℕ) (cs ds : List ℕ) → length (difference p cs ds) ≡ max (length cs) (length ds)
unfolding difference
length_difference p [] [] = omega arith
length_difference p [] (d ∷ ds) = omega (arith, length_difference p [] ds)
length_difference p (c ∷ cs) [] = omega (arith, length_difference p cs [])
length_difference p (c ∷ cs) (d ∷ ds) = omega (arith, length_difference p cs ds)

-- where the difference is all 0, the coefficients are the same
difference_zero : (p : ℕ) (cs ds : List ℕ) → AllZero (suc p) (difference p cs ds) → (i : ℕ) → Same (suc p) (get_or cs i 0) (get_or ds i 0)
unfolding difference
difference_zero p [] [] z i = same_refl
difference_zero p [] (d ∷ ds) z zero = same_of_difference p 0 d (same_trans (same_of_eq (omega arith)) (same_zero z.0))
difference_zero p [] (d ∷ ds) z (suc i) = difference_zero p [] ds z.1 i
difference_zero p (c ∷ cs) [] z zero = same_zero z.0
difference_zero p (c ∷ cs) [] z (suc i) = difference_zero p cs [] z.1 i
difference_zero p (c ∷ cs) (d ∷ ds) z zero = same_of_difference p c d (same_zero z.0)
difference_zero p (c ∷ cs) (d ∷ ds) z (suc i) = difference_zero p cs ds z.1 i

-- two lists of at most k + 1 coefficients whose difference is not all 0 modulo q have the same value at no more than k numbers below q
difference_bound :
    (p k : ℕ) (cs ds : List ℕ) → Prime (suc p) → length cs ≤ suc k → length ds ≤ suc k → ¬ AllZero (suc p) (difference p cs ds)
    → count (suc p) (λ x. eqb (eval cs x % suc p) (eval ds x % suc p)) ≤ k
unfolding root
difference_bound p k cs ds prime lc ld n =
    le_trans (count_monotone (suc p) _ (root (suc p) (difference p cs ds)) agree)
    (roots_bound (suc p) k (difference p cs ds) prime (omega (arith, length_difference p cs ds)) n)
  where
    agree : (x : ℕ) → x < suc p → eqb (eval cs x % suc p) (eval ds x % suc p) ≡ true → eqb (eval (difference p cs ds) x % suc p) 0 ≡ true
    agree x l t = eq-eqb _ 0 (zero_of_same (same_trans (same_of_eq (eval_difference p cs ds x)) (difference_of_same (record { same = eqb-true _ _ t }))))

-- the same of lists of any length up to k + 1 that differ at one coefficient, where the shorter list counts as followed by zeros,
pub agree_bound_at :
    (q k : ℕ) (cs ds : List ℕ) (i : ℕ) → Prime q → length cs ≤ suc k → length ds ≤ suc k
    → ¬ Same q (get_or cs i 0) (get_or ds i 0)
    → count q (λ x. eqb (eval cs x % q) (eval ds x % q)) ≤ k
agree_bound_at zero k cs ds i prime lc ld n = absurd (omega (arith, prime.two))
agree_bound_at (suc p) k cs ds i prime lc ld n = difference_bound p k cs ds prime lc ld λ z. n (difference_zero p cs ds z i)

-- lists of one length whose entries are the same have the same remainders
remainders_same :
    (q : ℕ) (xs ys : List ℕ) → length xs ≡ length ys → ((i : ℕ) → Same q (get_or xs i 0) (get_or ys i 0)) → remainders q xs ≡ remainders q ys
unfolding remainders
remainders_same q xs ys e h = ext_get_or (0 % q) _ _ lengths entries
  where
    lengths : length (remainders q xs) ≡ length (remainders q ys)
    lengths = length-map xs (λ x. x % q) ∙ (e ∙ sym (length-map ys (λ x. x % q)))

    entries : (i : ℕ) → i < length (remainders q xs) → get_or (remainders q xs) i (0 % q) ≡ get_or (remainders q ys) i (0 % q)
    entries i l = get_or-map (λ x. x % q) xs i 0 ∙ ((h i).same ∙ sym (get_or-map (λ x. x % q) ys i 0))

-- and of lists of one length that differ modulo q
pub agree_bound :
    (q k : ℕ) (cs ds : List ℕ) → Prime q → length cs ≤ suc k → length cs ≡ length ds → remainders q cs ≢ remainders q ds
    → count q (λ x. eqb (eval cs x % q) (eval ds x % q)) ≤ k
agree_bound zero k cs ds prime l e n = absurd (omega (arith, prime.two))
agree_bound (suc p) k cs ds prime l e n =
    difference_bound p k cs ds prime l (omega arith) λ z. n (remainders_same (suc p) cs ds e (difference_zero p cs ds z))
