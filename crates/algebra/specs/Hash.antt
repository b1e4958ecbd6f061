-- The hash of a sequence of elements: Horner's rule modulo q.
-- Assumes nothing.
use Rattle.std.specs.Prelude.{ℕ, ◌+◌, ◌*◌, ◌%◌, List, [], ◌∷◌}

-- from the hash h, each element x makes it h · r + x
unfoldable pub hash_from : ℕ → ℕ → ℕ → List ℕ → ℕ
hash_from q r h [] = h
hash_from q r h (x ∷ xs) = hash_from q r ((h * r + x) % q) xs

-- the hash starts at 0
unfoldable pub hash : ℕ → ℕ → List ℕ → ℕ
hash q r xs = hash_from q r 0 xs
