-- The ages that the honest prover looks up (ram and stack): cells written before the clock, and ages within the range.
-- Assumes nothing.
use Prim.Native.Nat.{ℕ, ◌≤◌, ◌<◌}
use mathlib.Core.List.{List, [], ◌∷◌}
use native.Mathlib.Omega.{arith}
use Rattle.runs.specs.Honest.{Cell}
use Rattle.runs.proofs.Ages.{InRange}
use Rattle.runs.proofs.HonestLookups.{All, honest, honest_lookups, AgesIn}

-- every cell was written before the clock
abbrev pub Before : ℕ → List Cell → Type 0
Before clock = All (λ c. c.time < clock)

-- and so before a later clock
pub before_later : (clock later : ℕ) (cells : List Cell) → clock ≤ later → Before clock cells → Before later cells
before_later clock later [] h b = tt
before_later clock later (c ∷ cells) h b = (omega (arith, b.0), before_later clock later cells h b.1)

-- the lookups of ages in the range are in the range
pub lookups_in_range : (t : ℕ) (earlier ages : List ℕ) → AgesIn t ages → InRange t (honest_lookups earlier ages)
unfolding honest_lookups honest
lookups_in_range t earlier [] good = tt
lookups_in_range t earlier (a ∷ ages) good = (good.0.0, good.0.1, lookups_in_range t (a ∷ earlier) ages good.1)
