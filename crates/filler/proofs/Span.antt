-- Numbers of operations and clocks fit a word of a cell.
-- Assumes nothing.
use Prim.Native.Nat.{ℕ, ◌≤◌, ◌<◌}
use native.Mathlib.Omega.{arith}
use Rattle.memory.specs.Rows.{limit}
use Rattle.words.specs.Cells.{span}

pub below_span : (x : ℕ) → x ≤ limit → x < span
unfolding span limit
below_span x h = omega arith
