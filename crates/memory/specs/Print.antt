-- What is printed: numbers, rows, reports and refusals as bytes.
-- Assumes nothing.
use Rattle.std.specs.Prelude.{ℕ, zero, suc, ◌+◌, ◌/◌, ◌%◌, cond, List, [], ◌∷◌, ◌++◌, ltb}
use Rattle.memory.specs.declared.Memory.{Memory}
use Rattle.memory.specs.declared.Row.{Row}
use Rattle.memory.specs.declared.Challenge.{Challenge}
use Rattle.memory.specs.declared.Report.{Report}
use Rattle.memory.specs.Bytes.{comma, feed, zero_byte}
use Rattle.memory.specs.Names.{value_names, memory_name, op_name, row_names, report_names, refusal_names}
use Rattle.memory.specs.Content.{number_of}

-- "Numbers are unsigned decimal": the digits of n before the bytes `rest`, for a number of at most `most` digits
unfoldable pub digits_onto : ℕ → ℕ → List ℕ → List ℕ
digits_onto zero n rest = rest
digits_onto (suc most) n rest =
    let more = digits_onto most (n / 10) ((zero_byte + n % 10) ∷ rest) in
    cond (ltb n 10) ((zero_byte + n) ∷ rest) more

-- a number of at most 20 digits
unfoldable pub number_text : ℕ → List ℕ
number_text n = digits_onto 20 n []

-- numbers with commas between, and a line feed
unfoldable pub numbers_text : ℕ → List ℕ → List ℕ
numbers_text x [] = number_text x ++ feed ∷ []
numbers_text x (y ∷ ys) = number_text x ++ comma ∷ numbers_text y ys

-- a row as its line
unfoldable pub row_text : Row → List ℕ
row_text row =
    op_name row.op
    ++ comma ∷ numbers_text row.guard (row.addr ∷ number_of row.value ∷ number_of row.old ∷ row.time ∷ row.version ∷ [])

unfoldable pub rows_text : List Row → List ℕ
rows_text [] = []
rows_text (row ∷ rows) = row_text row ++ rows_text rows

-- "It prints two lines: names, then answer (0 accept), line (0 if accepted), inputs, multiplications (0 if refused)."
unfoldable pub report_text : Report → List ℕ
report_text r = report_names ++ feed ∷ numbers_text r.answer (r.line ∷ r.inputs ∷ r.mults ∷ [])

-- "A refusal prints only `answer,line` and the two values."
unfoldable pub refusal_text : ℕ → ℕ → List ℕ
refusal_text answer line = refusal_names ++ feed ∷ numbers_text answer (line ∷ [])

-- "Output: the file from line 3 on."
unfoldable pub filled_text : List Row → List ℕ
filled_text rows = row_names ++ feed ∷ rows_text rows

-- lines 1 and 2 of a file: the names, then memory, size, count and challenge
unfoldable pub header_text : Memory → ℕ → ℕ → Challenge → List ℕ
header_text m n t ch =
    value_names ++ feed ∷ (memory_name m ++ comma ∷ numbers_text n (t ∷ ch.r ∷ ch.a ∷ ch.b ∷ ch.c ∷ []))
