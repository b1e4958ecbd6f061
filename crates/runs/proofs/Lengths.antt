-- How long the printed texts are at most, where the numbers have at most 10 digits.
-- Assumes nothing.
use mathlib.Core.Path.{◌≡◌, refl}
use mathlib.Core.Bool.{Bool, true, false, ◌&&◌}
use mathlib.Core.List.{List, [], ◌∷◌}
use Prim.Native.Nat.{ℕ, ◌+◌, ◌*◌, ◌≤◌}
use native.Mathlib.Omega.{arith}
use lib.Dec.{ltb}
use lib.ListN.{length, length-append}
use borrow.Author.Tests.{ltb-true}
use Rattle.memory.specs.declared.Op.{Op}
use Rattle.memory.specs.declared.Op.TheVariants.{Init, Access, Look, Member, Push, Pop, Enqueue, Dequeue, End, Range, Other}
use Rattle.memory.specs.declared.Row.{Row}
use Rattle.memory.specs.Content.{number_of}
use Rattle.memory.specs.Text.{bytes}
use Rattle.memory.specs.Bytes.{comma, feed, all_below}
use Rattle.memory.specs.Names.{op_name}
use Rattle.memory.specs.Print.{number_text, numbers_text, row_text}
use Rattle.memory.proofs.Decimal.{ten_digits, number_length}

-- both of two tests that hold together hold
pub both_true : (a b : Bool) → (a && b) ≡ true → (a ≡ true) × (b ≡ true)
both_true true b e = (refl, e)
both_true false b e = let z : ◌≡◌ {A = ℕ} 0 1 = cc in absurd (omega arith)

-- a line of numbers: 10 digits and a comma or the line feed for each
pub numbers_length : (x : ℕ) (ys : List ℕ) → all_below ten_digits (x ∷ ys) ≡ true → length (numbers_text x ys) ≤ 11 + 11 * length ys
unfolding numbers_text all_below
numbers_length x [] h =
    let digits = number_length x (ltb-true x ten_digits (both_true (ltb x ten_digits) true h).0) in
    omega (arith, length-append (number_text x) (feed ∷ []), digits.1)
numbers_length x (y ∷ ys) h =
    let parts = both_true (ltb x ten_digits) (all_below ten_digits (y ∷ ys)) h in
    let digits = number_length x (ltb-true x ten_digits parts.0) in
    omega (arith, length-append (number_text x) (comma ∷ numbers_text y ys), digits.1, numbers_length y ys parts.1)

-- the names of the ops
pub name_length : (o : Op) → length (op_name o) ≤ 7
unfolding op_name bytes
name_length Init = omega arith
name_length Access = omega arith
name_length Look = omega arith
name_length Member = omega arith
name_length Push = omega arith
name_length Pop = omega arith
name_length Enqueue = omega arith
name_length Dequeue = omega arith
name_length End = omega arith
name_length Range = omega arith
name_length Other = omega arith

-- the columns of a row that hold numbers
unfoldable pub columns_of : Row → List ℕ
columns_of row = row.guard ∷ row.addr ∷ number_of row.value ∷ number_of row.old ∷ row.time ∷ row.version ∷ []

-- a row's line with its line feed
pub row_length : (row : Row) → all_below ten_digits (columns_of row) ≡ true → length (row_text row) ≤ 74
unfolding row_text columns_of
row_length row h =
    let rest : List ℕ = row.addr ∷ number_of row.value ∷ number_of row.old ∷ row.time ∷ row.version ∷ [] in
    omega
    (arith, length-append (op_name row.op) (comma ∷ numbers_text row.guard rest), name_length row.op, numbers_length row.guard rest h)
