-- The age of a time at a clock, clock − time modulo q: that of an earlier time is clock − time, that of a later one is not in the range.
-- Assumes nothing.
use Prim.Native.Nat.{ℕ, ◌+◌, ◌-◌, ◌*◌, ◌%◌, ◌≤◌, ◌<◌}
use mathlib.Core.Path.{◌≡◌, ◌∙◌, ap}
use mathlib.Core.Logic.{◌⊎◌, inl, inr}
use native.Mathlib.Nat.{mod-eq_of_lt, mod_self, add-mod_right, eq-or-lt_of_le}
use native.Mathlib.Omega.{arith}
use Rattle.algebra.specs.Modulo.{minus}

-- a time that is not below the clock, up to t, has no age from 1 to t: clock − time is 0, or wraps to more than t
pub age_of_later : (q t clock time : ℕ) → 2 * t ≤ q → 1 ≤ clock → clock ≤ time → time ≤ t → 1 ≤ minus q clock time → minus q clock time ≤ t → ⊥
unfolding minus
age_of_later q t clock time bound started later due low high = go (eq-or-lt_of_le later)
  where
    unwrapped : (clock + (q - time % q)) % q ≡ (clock + (q - time)) % q
    unwrapped = ap (λ (x : ℕ). (clock + (q - x)) % q) (mod-eq_of_lt (omega arith))

    go : (clock ≡ time) ⊎ (clock < time) → ⊥
    go (inl e) =
        let whole : clock + (q - time) ≡ q = omega arith in
        omega (arith, low, unwrapped, ap (λ (x : ℕ). x % q) whole, mod_self q)
    go (inr h) =
        let below : clock + (q - time) < q = omega arith in
        omega (arith, high, unwrapped, mod-eq_of_lt below)

-- the age of an earlier time does not wrap
pub age_of_earlier : (q clock time : ℕ) → time < clock → clock < q → minus q clock time ≡ clock - time
unfolding minus
age_of_earlier q clock time earlier below =
    let reduced : time % q ≡ time = mod-eq_of_lt (omega arith) in
    let carried : clock + (q - time % q) ≡ clock - time + q = omega (arith, reduced) in
    ap (λ (x : ℕ). x % q) carried ∙ (add-mod_right (clock - time) q ∙ mod-eq_of_lt (omega arith))
