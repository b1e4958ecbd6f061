-- What the filler's slices of words hold: the words of an output row, and the search tree of a set.
-- Assumes nothing.
use Rattle.std.specs.Prelude.{ℕ, ◌*◌, ◌≤◌, ◌<◌, ◌≡◌, List, [], ◌∷◌, length, get_or, replicate}
use Rattle.memory.specs.Rows.{limit}
use Rattle.words.specs.Inputs.{op_at, guard_at, addr_at, value_at}
use Rattle.words.specs.Counts.{links_in}
use Rattle.index.specs.Values.{values_in}
use Rattle.index.specs.Tree.{grown}

-- the words of an output row: "Op, guard, addr and value are copied"
abbrev pub copied : List ℕ → ℕ → ℕ → ℕ → ℕ → List ℕ
copied inputs k o t v = op_at inputs k ∷ guard_at inputs k ∷ addr_at inputs k ∷ value_at inputs k ∷ o ∷ t ∷ v ∷ []

-- the links in the first w words are those of the search tree over the elements of a set of size w
pub record TreeIn (w : ℕ) (inits s : List ℕ) : Type 0 where
  pub held : 4 * w ≡ length inits
  pub few : w ≤ limit
  pub room : w ≤ length s
  pub links : (j : ℕ) → j < w → links_in (get_or s j 0) ≡ links_in (get_or (grown (values_in inits) (replicate w 0)) j 0)
