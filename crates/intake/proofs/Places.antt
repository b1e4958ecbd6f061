-- What a names line of the filling program's input leaves.
-- Assumes nothing.
use Rattle.std.proofs.Common.{◌≡◌, ℕ, ◌+◌}
use borrow.Author.Tests.{eq-eqb, ne_eqb}
use Rattle.runs.specs.declared.Intake.{Intake}
use Rattle.runs.specs.FillStream.{refuse_on, move_to, names_taken}

-- a names line by its fault: the next line follows, or the input is refused on this one
pub names_taken_lem : (i : Intake) (k f : ℕ)
    → (f ≡ 0 → names_taken i k f ≡ move_to i (k + 1)) × ((f ≡ 0 → ⊥) → names_taken i k f ≡ refuse_on i f k)
unfolding names_taken
names_taken_lem i k f = (λ none. simp (eq-eqb f 0 none), λ some. simp (ne_eqb f 0 some))
