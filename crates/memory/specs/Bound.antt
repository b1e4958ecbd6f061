-- Section "The bound on challenges" of document 01: when a challenge accepts and what is malformed, of
-- any list of parsed rows that the row call can be handed, also of such as no line reads as; and m.
-- Lines are the instance `parse_rows q lines`. When the advice is the filler's is said in crate runs.
-- Assumes nothing.
use Rattle.std.specs.Prelude.{ℕ, ◌+◌, max, Bool, ◌&&◌, ◌||◌, not, List, [], ◌∷◌, eqb, leb, length}
use Rattle.algebra.specs.Sum.{sum, bit}
use Rattle.memory.specs.declared.Memory.{Memory}
use Rattle.memory.specs.declared.Memory.TheVariants.{Ram, Rom, Set, Stack, Queue}
use Rattle.memory.specs.declared.Row.{Row}
use Rattle.memory.specs.Faults.{Parsed}
use Rattle.memory.specs.declared.Challenge.{Challenge}
use Rattle.memory.specs.Bytes.{all_below}
use Rattle.memory.specs.Rows.{allowed, operation_rows}
use Rattle.memory.specs.Equations.{enqueues}
use Rattle.memory.specs.Gates.{takes}
use Rattle.memory.specs.File.{first_fault}
use Rattle.memory.specs.Step.{fresh_of, steps_of, end_of, report_of}

-- the challenge of four elements
unfoldable pub challenge : ℕ → ℕ → ℕ → ℕ → Challenge
challenge r a b c = record { r = r; a = a; b = b; c = c }

-- "A challenge is four elements r, a, b, c."
abbrev pub elements : ℕ → Challenge → Bool
elements q ch = all_below q (ch.r ∷ ch.a ∷ ch.b ∷ ch.c ∷ [])

-- "A challenge accepts the rows if the end of file then answers 0": the fresh state, the rows one call at a time, and last the end of file
unfoldable pub accepts : ℕ → Memory → ℕ → ℕ → List Parsed → Challenge → Bool
accepts q m n t xs ch = eqb (report_of (end_of (steps_of q (fresh_of q m n t ch) xs))).answer 0

-- how many of the q ^ 4 challenges pass a test
unfoldable pub challenges : ℕ → (Challenge → Bool) → ℕ
challenges q test = sum q (λ r. sum q (λ a. sum q (λ b. sum q (λ c. bit (test (challenge r a b c))))))

-- "Incomplete or malformed is what meets one of 1 to 7.": size and count by themselves (3 and 4), or the first fault of the rows
unfoldable pub malformed : ℕ → Memory → ℕ → ℕ → List Parsed → Bool
malformed q m n t xs =
    let f = (first_fault q m n t [] xs).number in
    not (all_below q (n ∷ t ∷ []) && allowed m n t) || (leb 1 f && leb f 7)

-- "m is T + n for rom and set, T + the larger of n and T for ram, T + Q for stack, and for a queue the enqueue rows with guard 1."
unfoldable pub degree : Memory → ℕ → ℕ → List Row → ℕ
degree Rom n t rows = t + n
degree Set n t rows = t + n
degree Ram n t rows = t + max n t
degree Stack n t rows = t + takes (operation_rows n t rows)
degree Queue n t rows = length (enqueues (operation_rows n t rows))
