-- A word of a key.
--     looked_more, links_kept    a lookup is counted once, and leaves the links
--     unlooked_low    two links alone are no lookup
-- Assumes nothing.
use Prim.Native.Nat.{ℕ, ◌+◌, ◌<◌}
use native.Mathlib.Omega.{arith}
use mathlib.Core.Path.{◌≡◌}
use Rattle.words.specs.Counts.{lookup, lookups_in, links_in}

pub looked_more : (word : ℕ) → lookups_in (word + lookup) ≡ lookups_in word + 1
unfolding lookups_in lookup
looked_more word = omega arith

pub links_kept : (word : ℕ) → links_in (word + lookup) ≡ links_in word
unfolding links_in lookup
links_kept word = omega arith

pub unlooked_low : (word : ℕ) → word < lookup → lookups_in word ≡ 0
unfolding lookups_in lookup
unlooked_low word h = omega arith
