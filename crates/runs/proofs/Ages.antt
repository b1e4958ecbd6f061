-- The ages that are looked up lie in the range: what the range's shuffle gives, and the ram and the stack use.
-- Assumes nothing.
use Prim.Native.Nat.{ℕ, ◌≤◌}
use mathlib.Core.List.{List, [], ◌∷◌}
use Rattle.memory.specs.Equations.{Lookup}

-- every age is one of the numbers 1 to t
abbrev pub InRange : ℕ → List Lookup → Type 0
InRange t [] = Unit {0}
InRange t (l ∷ ls) = (1 ≤ l.age) × (l.age ≤ t) × InRange t ls
