-- Comparing two texts byte for byte, by the library's test of slices.
-- Assumes nothing.
use Rattle.std.proofs.Common.{◌≡◌, ℕ, List, [], ◌∷◌, ◌&&◌, eqb, refl, ap}
use Rattle.std.specs.Str.{bytes_eq}
use Rattle.memory.specs.Bytes.{same}

pub same_is : (xs ys : List ℕ) → same xs ys ≡ bytes_eq xs ys
unfolding same
same_is [] [] = refl
same_is [] (y ∷ ys) = refl
same_is (x ∷ xs) [] = refl
same_is (x ∷ xs) (y ∷ ys) = ap (λ t. eqb x y && t) (same_is xs ys)
