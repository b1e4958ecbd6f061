-- A product of factors α + t · β as a polynomial in t: m factors give m + 1 coefficients, and the last is the product of the β.
-- Two such products of at most m factors whose coefficients of t ^ m differ agree at no more than m values of t.
-- Assumes nothing.
use Prim.Native.Nat.{ℕ, zero, suc, ◌+◌, ◌*◌, ◌%◌, ◌≤◌, ◌<◌}
use mathlib.Core.Path.{◌≡◌, refl, ◌∙◌, ap, ap₂, subst, fun_ext}
use mathlib.Core.Logic.{◌≢◌}
use mathlib.Core.List.{List, [], ◌∷◌, map}
use native.Mathlib.Omega.{arith}
use native.Mathlib.Decide.{dec_lt}
use lib.Dec.{eqb}
use lib.ListN.{length, get_or, get_or-eq_default}
use Rattle.algebra.specs.Sum.{count}
use Rattle.algebra.specs.Modulo.{Same}
use Rattle.algebra.specs.Prime.{Prime, multiply}
use Rattle.algebra.specs.Polynomial.{eval}
use Rattle.algebra.proofs.Modulo.{same_sym}
use Rattle.algebra.proofs.Roots.{agree_bound_at}

-- the coefficients of c + (a + b · t) · ds
times_linear : ℕ → ℕ → ℕ → List ℕ → List ℕ
times_linear c a b [] = c ∷ []
times_linear c a b (d ∷ ds) = (c + a * d) ∷ times_linear (b * d) a b ds

-- its value
eval_times_linear : (c a b : ℕ) (ds : List ℕ) (t : ℕ) → eval (times_linear c a b ds) t ≡ c + (a + t * b) * eval ds t
unfolding times_linear eval
eval_times_linear c a b [] t = omega arith
eval_times_linear c a b (d ∷ ds) t = omega (arith, ap (λ (e : ℕ). t * e) (eval_times_linear (b * d) a b ds t))

-- one coefficient more
length_times_linear : (c a b : ℕ) (ds : List ℕ) → length (times_linear c a b ds) ≡ suc (length ds)
unfolding times_linear
length_times_linear c a b [] = refl
length_times_linear c a b (d ∷ ds) = ap suc (length_times_linear (b * d) a b ds)

-- the last coefficient is b times that of ds
last_times_linear :
    (c a b : ℕ) (ds : List ℕ) (m : ℕ) → length ds ≡ suc m → get_or (times_linear c a b ds) (suc m) 0 ≡ b * get_or ds m 0
unfolding times_linear
last_times_linear c a b [] m e = absurd (omega arith)
last_times_linear c a b (d ∷ []) zero e = refl
last_times_linear c a b (d ∷ []) (suc m) e = absurd (omega arith)
last_times_linear c a b (d ∷ f ∷ ds) zero e = absurd (omega arith)
last_times_linear c a b (d ∷ f ∷ ds) (suc m) e = last_times_linear (b * d) a b (f ∷ ds) m (omega arith)

module _ {A : Type 0} where
  -- the product of α x + t · β x over the entries x of a list
  unfoldable pub line : (A → ℕ) → (A → ℕ) → List A → ℕ → ℕ
  line α β xs t = multiply (map (λ x. α x + t * β x) xs)

  -- its coefficients as a polynomial in t
  pub line_coefficients : (A → ℕ) → (A → ℕ) → List A → List ℕ
  line_coefficients α β [] = 1 ∷ []
  line_coefficients α β (x ∷ xs) = times_linear 0 (α x) (β x) (line_coefficients α β xs)

  -- their value at t is the product,
  pub eval_line_coefficients : (α β : A → ℕ) (xs : List A) (t : ℕ) → eval (line_coefficients α β xs) t ≡ line α β xs t
  unfolding line_coefficients line multiply eval
  eval_line_coefficients α β [] t = omega arith
  eval_line_coefficients α β (x ∷ xs) t =
      eval_times_linear 0 (α x) (β x) (line_coefficients α β xs) t
      ∙ omega (arith, ap (λ (e : ℕ). (α x + t * β x) * e) (eval_line_coefficients α β xs t))

  -- m factors give m + 1 coefficients,
  pub length_line_coefficients : (α β : A → ℕ) (xs : List A) → length (line_coefficients α β xs) ≡ suc (length xs)
  unfolding line_coefficients
  length_line_coefficients α β [] = refl
  length_line_coefficients α β (x ∷ xs) =
      length_times_linear 0 (α x) (β x) (line_coefficients α β xs) ∙ ap suc (length_line_coefficients α β xs)

  -- of m factors, the coefficient of t ^ m is the product of the β,
  pub last_line_coefficients : (α β : A → ℕ) (xs : List A) → get_or (line_coefficients α β xs) (length xs) 0 ≡ multiply (map β xs)
  unfolding line_coefficients multiply
  last_line_coefficients α β [] = refl
  last_line_coefficients α β (x ∷ xs) =
      last_times_linear 0 (α x) (β x) (line_coefficients α β xs) (length xs) (length_line_coefficients α β xs)
      ∙ ap (λ (e : ℕ). β x * e) (last_line_coefficients α β xs)

  -- and of fewer than m factors, it is 0
  pub past_line_coefficients : (α β : A → ℕ) (xs : List A) (m : ℕ) → length xs < m → get_or (line_coefficients α β xs) m 0 ≡ 0
  past_line_coefficients α β xs m l = get_or-eq_default (line_coefficients α β xs) 0 (omega (arith, length_line_coefficients α β xs))

  -- two products of at most m factors with different coefficients of one power of t have the same value at no more than m numbers t
  pub lines_agree_bound_at :
      (q m i : ℕ) (α β : A → ℕ) (xs ys : List A) → Prime q → length xs ≤ m → length ys ≤ m
      → ¬ Same q (get_or (line_coefficients α β xs) i 0) (get_or (line_coefficients α β ys) i 0)
      → count q (λ t. eqb (line α β xs t % q) (line α β ys t % q)) ≤ m
  lines_agree_bound_at q m i α β xs ys prime lx ly n =
      subst (λ f. count q f ≤ m) (fun_ext λ t. ap₂ (λ (a b : ℕ). eqb (a % q) (b % q)) (eval_line_coefficients α β xs t) (eval_line_coefficients α β ys t))
      (agree_bound_at q m (line_coefficients α β xs) (line_coefficients α β ys) i prime
      (omega (arith, length_line_coefficients α β xs)) (omega (arith, length_line_coefficients α β ys)) n)

  -- so two products of m factors each whose products of the β differ,
  pub lines_agree_bound :
      (q m : ℕ) (α β : A → ℕ) (xs ys : List A) → Prime q → length xs ≡ m → length ys ≡ m
      → ¬ Same q (multiply (map β xs)) (multiply (map β ys))
      → count q (λ t. eqb (line α β xs t % q) (line α β ys t % q)) ≤ m
  lines_agree_bound q m α β xs ys prime lx ly n =
      lines_agree_bound_at q m m α β xs ys prime (omega arith) (omega arith) (rw (top xs lx, top ys ly) n)
    where
      top : (zs : List A) → length zs ≡ m → get_or (line_coefficients α β zs) m 0 ≡ multiply (map β zs)
      top zs e = subst (λ (j : ℕ). get_or (line_coefficients α β zs) j 0 ≡ multiply (map β zs)) e (last_line_coefficients α β zs)

  -- and two products of at most m factors, not equally many, whose products of the β are not 0
  pub lines_agree_bound_unequal :
      (q m : ℕ) (α β : A → ℕ) (xs ys : List A) → Prime q → length xs ≤ m → length ys ≤ m → length xs ≢ length ys
      → ¬ Same q (multiply (map β xs)) 0 → ¬ Same q (multiply (map β ys)) 0
      → count q (λ t. eqb (line α β xs t % q) (line α β ys t % q)) ≤ m
  lines_agree_bound_unequal q m α β xs ys prime lx ly ne nx ny = split (dec_lt (length xs) (length ys))
    where
      split : Dec (length xs < length ys) → count q (λ t. eqb (line α β xs t % q) (line α β ys t % q)) ≤ m
      split (yes l) =
          lines_agree_bound_at q m (length ys) α β xs ys prime lx ly
          (rw (past_line_coefficients α β xs (length ys) l, last_line_coefficients α β ys) (λ s. ny (same_sym s)))
      split (no n) =
          lines_agree_bound_at q m (length xs) α β xs ys prime lx ly
          (rw (last_line_coefficients α β xs, past_line_coefficients α β ys (length xs) (omega arith)) nx)
