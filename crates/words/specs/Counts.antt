-- A word of a key, an address of a rom or an element of a set, counts its lookups above the two
-- links of a search tree. A rom has no tree, and no links.
-- Assumes nothing.
use Rattle.std.specs.Prelude.{ℕ, ◌*◌, ◌/◌, ◌%◌}

-- one lookup: two links, each below 65,536, are below this
unfoldable pub lookup : ℕ
lookup = 65536 * 65536

-- the lookups in a word, and the two links
unfoldable pub lookups_in : ℕ → ℕ
lookups_in word = word / lookup

unfoldable pub links_in : ℕ → ℕ
links_in word = word % lookup
