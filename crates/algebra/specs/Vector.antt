-- Vectors of numbers modulo q, as lists.
-- Assumes nothing.
use Rattle.std.specs.Prelude.{ℕ, ◌+◌, ◌*◌, ◌%◌, ◌<◌, ◌≡◌, List, [], ◌∷◌, map, length}

-- the inner product, to the end of the shorter list
unfoldable pub inner : List ℕ → List ℕ → ℕ
inner [] ys = 0
inner (x ∷ xs) [] = 0
inner (x ∷ xs) (y ∷ ys) = x * y + inner xs ys

-- the vector w + t · v, entry by entry, to the end of the shorter list
unfoldable pub along : List ℕ → ℕ → List ℕ → List ℕ
along [] t v = []
along (x ∷ w) t [] = []
along (x ∷ w) t (y ∷ v) = (x + t * y) ∷ along w t v

-- the list of the remainders modulo q: two vectors are the same modulo q where these lists are equal
unfoldable pub remainders : ℕ → List ℕ → List ℕ
remainders q xs = map (λ x. x % q) xs

-- every entry is below q
abbrev pub Below : ℕ → List ℕ → Type 0
Below q [] = Unit {0}
Below q (x ∷ xs) = (x < q) × Below q xs

-- every entry is 0 modulo q
abbrev pub AllZero : ℕ → List ℕ → Type 0
AllZero q [] = Unit {0}
AllZero q (x ∷ xs) = (x % q ≡ 0) × AllZero q xs

-- every vector of a list has length d and entries below q
abbrev pub Wide : ℕ → ℕ → List (List ℕ) → Type 0
Wide q d [] = Unit {0}
Wide q d (x ∷ xs) = (length x ≡ d) × Below q x × Wide q d xs
