-- Numbers are all below a modulus where each of them is.
-- Assumes nothing.
use Rattle.std.proofs.Common.{◌≡◌, ℕ, List, [], ◌∷◌, refl, ap}
use Rattle.std.specs.Prelude.{ltb, ◌&&◌}
use Rattle.std.specs.List.{list_all}
use Rattle.memory.specs.Bytes.{all_below}

pub each_below : (q : ℕ) (xs : List ℕ) → list_all (λ x. ltb x q) xs ≡ all_below q xs
unfolding all_below
each_below q [] = refl
each_below q (x ∷ xs) = ap (λ b. ltb x q && b) (each_below q xs)
