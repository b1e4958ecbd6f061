-- What the writer of the rows after the init rows is given, and what it leaves.
-- Assumes nothing.
use Rattle.std.specs.Prelude.{ℕ, ◌+◌, ◌*◌, ◌≤◌, Bool, true, ◌≡◌, List, length, get_or, take, drop, replicate}
use Rattle.memory.specs.declared.Memory.{Memory}
use Rattle.memory.specs.declared.Memory.TheVariants.{Ram, Rom, Set, Stack, Queue}
use Rattle.memory.specs.Rows.{sized, limit, allowed}
use Rattle.runs.specs.Plain.{among}
use Rattle.runs.specs.Honest.{operations_filled}
use Rattle.runs.specs.Filler.{inputs_in, room}
use Rattle.filler.specs.declared.steps.Cursor.{Cursor}
use Rattle.index.specs.Values.{values_in}
use Rattle.index.specs.Tree.{grown}
use Rattle.layout.specs.Laid.{laid}
use Rattle.filler.specs.Ends.{ending, EndingFits}
use Rattle.faults.specs.Scan.{scanned, inits_scanned}

-- how many cells the scratch words hold: those of a ram, the keys of a rom or set, or as many as a
-- stack or queue may come to hold
unfoldable pub width_of : Memory → ℕ → ℕ → ℕ
width_of Ram n t = n
width_of Rom n t = n
width_of Set n t = n
width_of Stack n t = t
width_of Queue n t = t

-- whether a value is one of a set's elements
abbrev pub in_set : List ℕ → ℕ → Bool
in_set values v = among v values

-- how many scratch words the filler uses at most, of any memory: contents stand in the rows, so it
-- is a word for each cell and two for each operation, however many words a content has
unfoldable pub used_words : ℕ → ℕ → ℕ
used_words n t = n + 2 * t

-- init rows without fault, at some modulus
pub record CleanInits (inits : List ℕ) : Type 0 where
  pub modulus : ℕ
  pub none : (inits_scanned modulus 1 (inputs_in inits)).number ≡ 0

-- init rows and operations without fault at some modulus, room for the rows after the init rows,
-- and as many scratch words as may be used
pub record Fillable (m : Memory) (n t : ℕ) (inits ops out s : List ℕ) : Type 0 where
  pub size : n ≤ limit
  pub count : t ≤ limit
  pub allowed : sized m n ≡ true
  pub out_room : 7 * (n + 3 * t) ≤ length out
  pub scratch_used : length s ≡ used_words n t
  pub modulus : ℕ
  pub clean : (scanned modulus m (in_set (values_in inits)) n (n + 1) (inputs_in ops)).number ≡ 0

-- scratch words that are all 0
abbrev pub Blank : List ℕ → Type 0
Blank s = (j : ℕ) → get_or s j 0 ≡ 0

-- scratch words that are all 0, one for each of n init rows and more
pub record Unprepared (n : ℕ) (s : List ℕ) : Type 0 where
  pub few : n ≤ limit
  pub room : n ≤ length s
  pub blank : Blank s

-- room for the output, and as many scratch words as may be used, which are 0
pub record Within (m : Memory) (n t : ℕ) (out s : List ℕ) : Type 0 where
  pub proper : allowed m n t ≡ true
  pub out_room : 7 * room n t ≤ length out
  pub scratch_used : length s ≡ used_words n t
  pub blank : Blank s

-- the first n scratch words are the search tree over the elements of a set
pub record TreeBuilt (n : ℕ) (inits s : List ℕ) : Type 0 where
  pub held : 4 * n ≡ length inits
  pub few : n ≤ limit
  pub room : n ≤ length s
  pub is : take n s ≡ grown (values_in inits) (replicate n 0)

-- the scratch words before the first operation
abbrev pub Prepared : Memory → ℕ → List ℕ → List ℕ → Type 0
Prepared Ram n inits s = Blank s
Prepared Rom n inits s = Blank s
Prepared Set n inits s = TreeBuilt n inits s
Prepared Stack n inits s = Blank s
Prepared Queue n inits s = Blank s

-- after the operations: what is written, with the rows that the scratch words give, is all rows
pub record Ended (m : Memory) (n t : ℕ) (inits ops out₀ out s : List ℕ) (at : Cursor) : Type 0 where
  pub whole : laid out₀ 0 (operations_filled m t (values_in inits) (inputs_in ops)) ≡ laid out (7 * t) (ending m (width_of m n t) t at inits ops s)
  pub counted : length (operations_filled m t (values_in inits) (inputs_in ops)) ≡ t + length (ending m (width_of m n t) t at inits ops s)
  pub fits : EndingFits m (width_of m n t) t at inits s (drop (7 * t) out)
