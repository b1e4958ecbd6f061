-- The end rows and range rows as the scratch words give them, once all operations are done.
-- Assumes nothing.
use Rattle.std.specs.Prelude.{ℕ, zero, suc, ◌+◌, ◌-◌, ◌*◌, ◌≤◌, ◌≡◌, List, [], ◌∷◌, ◌++◌, length, get_or}
use Rattle.memory.specs.declared.Memory.{Memory}
use Rattle.memory.specs.declared.Memory.TheVariants.{Ram, Rom, Set, Stack, Queue}
use Rattle.memory.specs.declared.Row.{Row}
use Rattle.runs.specs.Honest.{end_row, range_row}
use Rattle.filler.specs.declared.steps.Cursor.{Cursor}
use Rattle.words.specs.Cells.{time_in, content_in}
use Rattle.words.specs.Counts.{lookups_in}
use Rattle.index.specs.Values.{values_in}

-- the end rows of so many cells from word j on
unfoldable pub cell_ends : List ℕ → List ℕ → ℕ → ℕ → List ℕ → List Row
cell_ends inits ops j zero s = []
cell_ends inits ops j (suc c) s = end_row 0 (content_in inits ops j (get_or s j 0)) (time_in (get_or s j 0)) 0 ∷ cell_ends inits ops (suc j) c s

-- the end rows of values, "end values restate init": the words of their keys from word j on
unfoldable pub value_ends : ℕ → List ℕ → List ℕ → List Row
value_ends j [] s = []
value_ends j (v ∷ vs) s = end_row v 0 0 (lookups_in (get_or s j 0)) ∷ value_ends (suc j) vs s

-- so many range rows: lookups from word j on
unfoldable pub ranges : ℕ → ℕ → List ℕ → List Row
ranges j zero s = []
ranges j (suc t) s = range_row (get_or s j 0) ∷ ranges (suc j) t s

-- the rows after the operations
unfoldable pub ending : Memory → ℕ → ℕ → Cursor → List ℕ → List ℕ → List ℕ → List Row
ending Ram w t at inits ops s = cell_ends inits ops 0 w s ++ ranges w t s
ending Rom w t at inits ops s = value_ends 0 (values_in inits) s
ending Set w t at inits ops s = value_ends 0 (values_in inits) s
ending Stack w t at inits ops s = cell_ends inits ops 0 at.tail s ++ ranges w t s
ending Queue w t at inits ops s = cell_ends inits ops at.head (at.tail - at.head) s

-- so many cells from word j on are there, and their end rows have room
pub record CellsFit (j count : ℕ) (s out : List ℕ) : Type 0 where
  pub held : j + count ≤ length s
  pub room : 7 * count ≤ length out

-- so many of w cells from the first on, and then range rows
pub record CellsAndRangesFit (w t count : ℕ) (s out : List ℕ) : Type 0 where
  pub within : count ≤ w
  pub held : w + t ≤ length s
  pub room : 7 * (count + t) ≤ length out

-- values, one for each key
pub record ValuesFit (w : ℕ) (inits s out : List ℕ) : Type 0 where
  pub count : 4 * w ≡ length inits
  pub held : w ≤ length s
  pub room : 7 * w ≤ length out

-- the cells of a queue
pub record QueueFits (w : ℕ) (at : Cursor) (s out : List ℕ) : Type 0 where
  pub order : at.head ≤ at.tail
  pub within : at.tail ≤ w
  pub held : w ≤ length s
  pub room : 7 * w ≤ length out

-- the rows after the operations have room, and what they are made of is there
abbrev pub EndingFits : Memory → ℕ → ℕ → Cursor → List ℕ → List ℕ → List ℕ → Type 0
EndingFits Ram w t at inits s out = CellsAndRangesFit w t w s out
EndingFits Rom w t at inits s out = ValuesFit w inits s out
EndingFits Set w t at inits s out = ValuesFit w inits s out
EndingFits Stack w t at inits s out = CellsAndRangesFit w t at.tail s out
EndingFits Queue w t at inits s out = QueueFits w at s out
