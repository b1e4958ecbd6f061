-- How long a report is at most, whatever its numbers.
-- Assumes nothing.
use Prim.Native.Nat.{ℕ, zero, suc, ◌+◌, ◌*◌, ◌/◌, ◌%◌, ◌≤◌}
use mathlib.Core.Bool.{Bool, true, false, cond}
use mathlib.Core.List.{List, [], ◌∷◌}
use native.Mathlib.Omega.{arith}
use lib.Dec.{ltb}
use lib.ListN.{length, length-append}
use Rattle.memory.specs.Text.{bytes}
use Rattle.memory.specs.Bytes.{comma, feed, zero_byte}
use Rattle.memory.specs.Names.{report_names}
use Rattle.memory.specs.Print.{digits_onto, number_text, numbers_text, report_text}
use Rattle.memory.specs.Statements.{ReportShort}

-- at most as many digits as are asked for
digits_short : (most n : ℕ) (rest : List ℕ) → length (digits_onto most n rest) ≤ most + length rest
unfolding digits_onto
digits_short zero n rest = omega arith
digits_short (suc most) n rest = by (ltb n 10) (digits_short most (n / 10) ((zero_byte + n % 10) ∷ rest))
  where
    by : (b : Bool) → length (digits_onto most (n / 10) ((zero_byte + n % 10) ∷ rest)) ≤ most + suc (length rest)
        → length (cond b ((zero_byte + n) ∷ rest) (digits_onto most (n / 10) ((zero_byte + n % 10) ∷ rest))) ≤ suc most + length rest
    by true h = omega arith
    by false h = omega (arith, h)

number_short : (n : ℕ) → length (number_text n) ≤ 20
unfolding number_text
number_short n = digits_short 20 n []

numbers_short : (x : ℕ) (ys : List ℕ) → length (numbers_text x ys) ≤ 21 + 21 * length ys
unfolding numbers_text
numbers_short x [] = omega (arith, length-append (number_text x) (feed ∷ []), number_short x)
numbers_short x (y ∷ ys) =
    omega (arith, length-append (number_text x) (comma ∷ numbers_text y ys), number_short x, numbers_short y ys)

names_length : length report_names ≤ 24
unfolding report_names bytes
names_length = omega arith

pub report_short : ReportShort
unfolding report_text
report_short r =
    let rest : List ℕ = r.line ∷ r.inputs ∷ r.mults ∷ [] in
    omega
    (arith, length-append report_names (feed ∷ numbers_text r.answer rest), names_length, numbers_short r.answer rest)
