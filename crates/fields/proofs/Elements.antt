-- Whether numbers are below a modulus, one after the other.
-- Assumes nothing.
use Prim.Native.Nat.{ℕ}
use mathlib.Core.Path.{◌≡◌, refl, ap, ◌∙◌}
use mathlib.Core.Bool.{Bool, true, false, ◌&&◌, and-true}
use mathlib.Core.List.{List, [], ◌∷◌, ◌++◌}
use lib.Dec.{ltb}
use Rattle.memory.specs.Bytes.{all_below}

-- numbers and one more are below the modulus if the numbers are and this one is
pub below_append : (q : ℕ) (vs : List ℕ) (v : ℕ) → all_below q (vs ++ v ∷ []) ≡ (all_below q vs && ltb v q)
unfolding all_below
below_append q [] v = and-true (ltb v q)
below_append q (w ∷ vs) v = ap (λ (t : Bool). ltb w q && t) (below_append q vs v) ∙ assoc (ltb w q) (all_below q vs) (ltb v q)
  where
    assoc : (a b c : Bool) → (a && (b && c)) ≡ ((a && b) && c)
    assoc true b c = refl
    assoc false b c = refl
