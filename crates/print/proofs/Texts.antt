-- The texts of rows, reports and refusals as the parts that are put one after another, and two
-- texts of document 01.
-- Assumes nothing.
use mathlib.Core.Path.{◌≡◌, refl, sym, ap}
use mathlib.Core.List.{List, [], ◌∷◌, ◌++◌, append_assoc}
use Prim.Native.Nat.{ℕ}
use Rattle.memory.specs.declared.Op.TheVariants.{Access}
use Rattle.memory.specs.declared.Row.{Row}
use Rattle.memory.specs.Text.{bytes}
use Rattle.memory.specs.Bytes.{comma, feed}
use Rattle.memory.specs.Names.{op_name, report_names}
use Rattle.memory.specs.Print.{digits_onto, number_text, numbers_text, row_text, report_text}
use Rattle.print.specs.Rows.{column_text, columns_text}

-- numbers with commas between are the first one, and a comma before each of the others
numbers_columns : (x : ℕ) (ns : List ℕ) → number_text x ++ columns_text ns ≡ numbers_text x ns
unfolding numbers_text column_text columns_text
numbers_columns x [] = refl
numbers_columns x (y ∷ ys) = ap (λ (t : List ℕ). number_text x ++ comma ∷ t) (numbers_columns y ys)

pub row_parts : (row : Row)
    → row_text row
    ≡ op_name row.op ++ columns_text (row.guard ∷ row.addr ∷ row.value ∷ row.old ∷ row.time ∷ row.version ∷ [])
unfolding row_text column_text columns_text
row_parts row =
    ap (λ (t : List ℕ). op_name row.op ++ comma ∷ t)
    (sym (numbers_columns row.guard (row.addr ∷ row.value ∷ row.old ∷ row.time ∷ row.version ∷ [])))

-- a names line and a line of numbers
pub two_lines : (names : List ℕ) (x : ℕ) (ns : List ℕ) → names ++ feed ∷ numbers_text x ns ≡ names ++ (feed ∷ []) ++ number_text x ++ columns_text ns
two_lines names x ns = simp (append_assoc, numbers_columns x ns)

-- document 01's example, and its first access row
pub report_example : report_text (record { answer = 0; line = 0; inputs = 12; mults = 16 }) ≡ bytes "answer,line,inputs,mults" ++ feed ∷ (bytes "0,0,12,16" ++ feed ∷ [])
unfolding report_text report_names numbers_text number_text digits_onto comma feed bytes
report_example = refl

pub row_example : row_text (record { op = Access; guard = 1; addr = 0; value = 7; old = 5; time = 0; version = 0 }) ≡ bytes "access,1,0,7,5,0,0" ++ feed ∷ []
unfolding row_text op_name numbers_text number_text digits_onto comma feed bytes
row_example = refl
