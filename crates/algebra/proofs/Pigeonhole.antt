-- The pigeonhole principle: m numbers below m that are different leave no number below m out.
-- Assumes nothing.
use Prim.Native.Nat.{ℕ, zero, suc, ◌<◌}
use mathlib.Core.Path.{◌≡◌, refl, sym, ◌∙◌}
use mathlib.Core.Logic.{◌⊎◌, inl, inr, ◌≢◌}
use mathlib.Core.Bool.{Bool, true, false, cond}
use native.Mathlib.Omega.{arith}
use lib.Dec.{eqb}
use borrow.Author.Tests.{eqb-true, eqb-false}

-- v, but b in the place of a
moved : ℕ → ℕ → ℕ → ℕ
moved a b v = cond (eqb v a) b v

moved_cases : (a b v : ℕ) → ((v ≡ a) × (moved a b v ≡ b)) ⊎ ((v ≢ a) × (moved a b v ≡ v))
unfolding moved
moved_cases a b v = test (eqb v a) refl
  where
    test : (t : Bool) → eqb v a ≡ t → ((v ≡ a) × (cond t b v ≡ b)) ⊎ ((v ≢ a) × (cond t b v ≡ v))
    test true e = inl (eqb-true v a e, refl)
    test false e = inr (eqb-false v a e, refl)

-- numbers below m + 1 that are not b are below m once b is put in the place of m
moved_below : (m b v : ℕ) → v < suc m → b < suc m → v ≢ b → moved m b v < m
moved_below m b v lv lb ne = split (moved_cases m b v)
  where
    split : ((v ≡ m) × (moved m b v ≡ b)) ⊎ ((v ≢ m) × (moved m b v ≡ v)) → moved m b v < m
    split (inl p) = omega (arith, p.0, p.1)
    split (inr p) = omega (arith, p.0, p.1)

-- different numbers that are not b stay different once b is put in the place of m
moved_apart : (m b v w : ℕ) → v ≢ b → w ≢ b → v ≢ w → moved m b v ≢ moved m b w
moved_apart m b v w vb wb ne = split (moved_cases m b v) (moved_cases m b w)
  where
    split :
        ((v ≡ m) × (moved m b v ≡ b)) ⊎ ((v ≢ m) × (moved m b v ≡ v))
        → ((w ≡ m) × (moved m b w ≡ b)) ⊎ ((w ≢ m) × (moved m b w ≡ w))
        → moved m b v ≢ moved m b w
    split (inl p) (inl r) e = ne (p.0 ∙ sym r.0)
    split (inl p) (inr r) e = wb (sym r.1 ∙ (sym e ∙ p.1))
    split (inr p) (inl r) e = vb (sym p.1 ∙ (e ∙ r.1))
    split (inr p) (inr r) e = ne (sym p.1 ∙ (e ∙ r.1))

-- f 0, …, f (m − 1) are different numbers below m: then none below m is left out
pub none_left_out :
    (m : ℕ) (f : ℕ → ℕ) (b : ℕ)
    → ((i : ℕ) → i < m → f i < m) → ((i j : ℕ) → i < j → j < m → f i ≢ f j) → b < m → ((i : ℕ) → i < m → f i ≢ b) → ⊥
none_left_out zero f b below apart lb out = omega arith
none_left_out (suc m) f b below apart lb out =
    none_left_out m (λ i. moved m b (f i)) (moved m b (f m))
    (λ i l. small i (omega arith)) (λ i j l k. different i j l (omega arith)) (small m (omega arith)) (λ i l. different i m l (omega arith))
  where
    small : (i : ℕ) → i < suc m → moved m b (f i) < m
    small i l = moved_below m b (f i) (below i l) lb (out i l)

    different : (i j : ℕ) → i < j → j < suc m → moved m b (f i) ≢ moved m b (f j)
    different i j l k = moved_apart m b (f i) (f j) (out i (omega arith)) (out j k) (apart i j l k)
