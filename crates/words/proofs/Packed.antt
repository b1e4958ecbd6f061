-- A word of a cell, packed and read again.
--     source_packed, time_packed    what was packed is read again
--     content_packed    the content that operation k brought
--     content_moved     a content whose source stays
-- Assumes nothing.
use Prim.Native.Nat.{ℕ, ◌+◌, ◌-◌, ◌<◌}
use native.Mathlib.Omega.{arith}
use mathlib.Core.Bool.{cond}
use mathlib.Core.Path.{◌≡◌, ap, ◌∙◌}
use mathlib.Core.List.{List}
use lib.Dec.{eqb}
use borrow.Author.Tests.{ne_eqb}
use Rattle.words.specs.Inputs.{value_at}
use Rattle.words.specs.Cells.{span, packed, source_in, time_in, content_in}

pub source_packed : (source time : ℕ) → source < span → source_in (packed source time) ≡ source
unfolding source_in packed span
source_packed source time h = omega arith

pub time_packed : (source time : ℕ) → time < span → time_in (packed source time) ≡ time
unfolding time_in packed span
time_packed source time h = omega arith

-- the content by its source alone
abbrev sourced : List ℕ → List ℕ → ℕ → ℕ → ℕ
sourced inits ops j source = cond (eqb source 0) (value_at inits j) (value_at ops (source - 1))

pub content_packed : (inits ops : List ℕ) (j k time : ℕ) → k + 1 < span → content_in inits ops j (packed (k + 1) time) ≡ value_at ops k
unfolding content_in
content_packed inits ops j k time h =
    ap (sourced inits ops j) (source_packed (k + 1) time h) ∙ rw (ne_eqb (k + 1) 0 (λ e. omega arith)) (ap (value_at ops) back)
  where
    back : k + 1 - 1 ≡ k
    back = omega arith

pub content_moved : (inits ops : List ℕ) (j word time : ℕ) → source_in word < span → content_in inits ops j (packed (source_in word) time) ≡ content_in inits ops j word
unfolding content_in
content_moved inits ops j word time h = ap (sourced inits ops j) (source_packed (source_in word) time h)
