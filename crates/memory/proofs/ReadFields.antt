-- What a line of k fields reads as: 2, 3, or a name and k − 1 numbers below q.
-- Assumes nothing.
use Prim.Native.Nat.{ℕ, suc, ◌-◌}
use mathlib.Core.Path.{◌≡◌, refl, ◌∙◌, ap}
use mathlib.Core.Bool.{Bool, true, false, ◌&&◌, cond, and-eq-true_iff}
use mathlib.Core.List.{List, [], ◌∷◌}
use native.Mathlib.Omega.{arith}
use lib.Dec.{eqb, leb}
use lib.ListN.{length, drop, length-drop}
use borrow.Author.Tests.{eqb-true}
use Rattle.memory.specs.Bytes.{Line, longest, fitting, fields, numerals, numbers, all_below, Fields, named, no_fields, readable, fields_of}

-- What holds of both choices holds of the chosen one; of the first it may suppose the test.
pub decided : {A : Type 0} (P : A → Type 0) (b : Bool) {x y : A} → (b ≡ true → P x) → P y → P (cond b x y)
decided P true px py = px refl
decided P false px py = py

pub chosen : {A : Type 0} (P : A → Type 0) (b : Bool) {x y : A} → P x → P y → P (cond b x y)
chosen P b px py = decided P b (λ e. px) py

-- a number for each field
numbers_length : (fs : List (List ℕ)) → length (numbers fs) ≡ length fs
unfolding numbers
numbers_length [] = refl
numbers_length (f ∷ fs) = ap suc (numbers_length fs)

readable_numbers : (k : ℕ) (line : Line) → readable k line ≡ true → length (numbers (drop 1 (fields line.text))) ≡ k - 1
unfolding readable
readable_numbers k line e =
    let fs = fields line.text in
    let many = ((and-eq-true_iff (fitting line) (eqb (length fs) k && numerals (drop 1 fs))).0 e).1 in
    let count = eqb-true (length fs) k ((and-eq-true_iff (eqb (length fs) k) (numerals (drop 1 fs))).0 many).0 in
    numbers_length (drop 1 fs) ∙ omega (arith, length-drop 1 fs)

-- so what holds of these holds of what any line reads as
pub read_fields :
    (P : Fields → Type 0) (q k : ℕ) → P (no_fields 2) → P (no_fields 3)
    → ((name ns : List ℕ) → length ns ≡ k - 1 → all_below q ns ≡ true → P (named name ns)) → (line : Line) → P (fields_of q k line)
unfolding fields_of
read_fields P q k two three good line =
    decided P (readable k line)
    (λ read. decided P (all_below q (numbers (drop 1 (fields line.text)))) (λ below. good _ _ (readable_numbers k line read) below) three)
    two

-- a text of more than 80 bytes is 2, whatever its bytes
pub long_fields : (q k : ℕ) (line : Line) → leb (length line.text) longest ≡ false → fields_of q k line ≡ no_fields 2
unfolding fields_of readable fitting
long_fields q k line long = rw long
