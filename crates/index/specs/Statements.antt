-- What is shown of the definitions. proofs/ has the proof under the name that the comment gives.
-- Assumes nothing.
use Rattle.std.specs.Prelude.{ℕ, ◌≤◌, ◌≡◌, List, length, replicate}
use Rattle.memory.specs.Rows.{limit}
use Rattle.index.specs.Values.{first_at}
use Rattle.index.specs.Tree.{found, grown}

-- "equal set elements give all lookups to the first": a search in the tree that is grown over
-- values in words of 0 finds the first place of what it looks for. (Search: search_finds_first)
abbrev pub SearchFindsFirst : Type 0
SearchFindsFirst =
    (x : ℕ) (values : List ℕ) → length values ≤ limit
    → found x values (grown values (replicate (length values) 0)) ≡ first_at x values
