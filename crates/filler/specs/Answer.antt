-- What a fill comes to, as the document's numbers.
-- Assumes nothing.
use Rattle.std.specs.Prelude.{ℕ, ◌+◌, ◌*◌, ◌≤◌, true, cond, ◌≡◌, List, eqb, leb, length}
use Rattle.std.specs.Prelude.{Result, Ok, Err}
use Rattle.memory.specs.declared.Memory.{Memory}
use Rattle.memory.specs.Faults.{fault_number}
use Rattle.memory.specs.Rows.{allowed}
use Rattle.runs.specs.Filler.{Filling, Placed, room}
use Rattle.faults.specs.declared.Refused.{Refused}

-- what the definition says, as a result: how many rows were written, or the refusal's number and
-- place
unfoldable pub filled_of : Filling → Result ℕ Placed
filled_of f = cond (eqb f.answer 0) (Ok f.count) (Err (record { number = f.answer; place = f.place }))

-- the code's answer with the number of its fault
abbrev pub numbered_fill : Result ℕ Refused → Result ℕ Placed
numbered_fill (Ok n) = Ok n
numbered_fill (Err r) = Err (record { number = fault_number r.fault; place = r.place })

-- the code's answer and what is left in both lent slices are those of a filling
pub record Fills (f : Filling) (r : Result ℕ Refused) (out s : List ℕ) : Type 0 where
  pub answer : numbered_fill r ≡ filled_of f
  pub output : out ≡ f.output
  pub words : s ≡ f.scratch

-- 4, 7, 14 and 15, by the lengths of the rows, the output and the scratch; 0 where there is none
unfoldable pub away_by : Memory → ℕ → ℕ → ℕ → ℕ → ℕ → ℕ
away_by m n t rows out s =
    cond (allowed m n t)
    (cond (eqb rows (4 * (n + t))) (cond (leb (7 * room n t) out) (cond (leb (room n t) s) 0 15) 14) 7)
    4

-- a size and a count that are allowed, and room
pub record Roomy (m : Memory) (n t : ℕ) (out s : List ℕ) : Type 0 where
  pub proper : allowed m n t ≡ true
  pub out_room : 7 * room n t ≤ length out
  pub scratch_room : room n t ≤ length s
