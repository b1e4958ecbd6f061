-- What a names line leaves.
-- Assumes nothing.
use Rattle.std.proofs.Common.{◌≡◌, ℕ, ◌+◌}
use borrow.Author.Tests.{eq-eqb, ne_eqb}
use Rattle.memory.specs.declared.State.{State}
use Rattle.memory.specs.Step.{refused_state}
use Rattle.memory.specs.Stream.{stand, names_read}

-- a names line by its fault: the next line follows, or the file is refused on this one
pub names_read_lem : (k : ℕ) (s : State) (f : ℕ)
    → (f ≡ 0 → names_read k s f ≡ stand (k + 1) s) × ((f ≡ 0 → ⊥) → names_read k s f ≡ stand 4 (refused_state f k))
unfolding names_read
names_read_lem k s f = (λ none. simp (eq-eqb f 0 none), λ some. simp (ne_eqb f 0 some))
