-- A comma and a number after it, byte by byte: "Numbers are unsigned decimal".
-- Assumes nothing.
use Rattle.std.specs.Prelude.{ℕ, zero, suc, ◌+◌, cond, List, [], ◌∷◌, Option, None, Some, length, eqb}
use Rattle.memory.specs.Bytes.{most_digits, comma, digit, decimal_from, numeral}
use Rattle.decimal.specs.declared.Number.{Number}

-- the digits at the front of a text, at most k of them
unfoldable pub run : ℕ → List ℕ → List ℕ
run zero bs = []
run (suc k) [] = []
run (suc k) (b ∷ bs) = cond (digit b) (b ∷ run k bs) []

-- digits that begin at a position, after the number of the digits before them
unfoldable pub digits_of : ℕ → ℕ → List ℕ → Number
digits_of value from ds = record { value = decimal_from value ds; next = from + length ds }

-- 2: "over 10 digits"
unfoldable pub most : ℕ
most = most_digits

-- the number that a run of digits is, and the position after it
unfoldable pub number_of : ℕ → List ℕ → Option Number
number_of from ds = cond (numeral ds) (Some (digits_of 0 from ds)) None

-- a comma and a number, where a text begins with them, and stands at a position
unfoldable pub number_from : ℕ → List ℕ → Option Number
number_from from [] = None
number_from from (b ∷ bs) = cond (eqb b comma) (number_of (from + 1) (run most bs)) None
