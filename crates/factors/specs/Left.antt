-- What a row adds to the hash of what left a queue.
-- Assumes nothing.
use Rattle.std.specs.Prelude.{ℕ, Bool, cond, List, [], ◌∷◌}
use Rattle.memory.specs.declared.Memory.{Memory}
use Rattle.memory.specs.declared.Memory.TheVariants.{Ram, Rom, Set, Stack, Queue}

-- the element of an executed row of a queue
unfoldable pub left_by : Memory → Bool → ℕ → List ℕ
left_by Ram executed x = []
left_by Rom executed x = []
left_by Set executed x = []
left_by Stack executed x = []
left_by Queue executed x = cond executed (x ∷ []) []
