-- The filling program: from the bytes of its input to the bytes that it prints. Section "The filler" of document 01.
-- Assumes nothing.
use Rattle.std.specs.Prelude.{ℕ, suc, ◌+◌, Bool, ◌&&◌, cond, List, [], ◌∷◌, ◌++◌, map, eqb, leb, ltb, get_or, take, drop}
use Rattle.std.specs.Prelude.{Option, None, Some}
use Rattle.memory.specs.declared.Memory.{Memory}
use Rattle.memory.specs.declared.Phase.TheVariants.{Starting, Operating}
use Rattle.memory.specs.Bytes.{Line, Fields, named, no_fields, fields_of, lines_of}
use Rattle.memory.specs.Names.{fill_names, input_names, memory_named, op_named}
use Rattle.memory.specs.Content.{content_of}
use Rattle.memory.specs.Rows.{allowed, ops_due}
use Rattle.memory.specs.File.{head_lines, first_line, Refusal, refusal, names_fault}
use Rattle.runs.specs.Honest.{Input, filled_rows}
use Rattle.runs.specs.Filler.{input_fault, rows_fault}
use Rattle.memory.specs.Print.{refusal_text, filled_text}

-- "The filling program takes size and count up to 128; above is 4."
unfoldable pub fill_limit : ℕ
fill_limit = 128

unfoldable pub fill_allowed : Memory → ℕ → ℕ → Bool
fill_allowed m n t = allowed m n t && (leb n fill_limit && leb t fill_limit)

-- What the value line reads as: memory, size and count, or its fault
pub data Job : Type 0 where
  job : Memory → ℕ → ℕ → Job
  no_job : ℕ → Job

-- the fields of a value line: `memory,size,count`
abbrev pub job_fields : ℕ
job_fields = 3

-- 4: "unknown memory, size or count not allowed"
unfoldable pub job_of : Option Memory → ℕ → ℕ → Job
job_of None n t = no_job 4
job_of (Some m) n t = cond (fill_allowed m n t) (job m n t) (no_job 4)

-- what the fields of a value line stand for
unfoldable pub job_read : Fields → Job
job_read (named name ns) = job_of (memory_named name) (get_or ns 0 0) (get_or ns 1 0)
job_read (no_fields f) = no_job f

-- what a value line reads as
unfoldable pub parse_job : ℕ → Line → Job
parse_job q line = job_read (fields_of q job_fields line)

-- What a row line of the filler's input reads as: the row, or its fault 2 or 3
pub data InputLine : Type 0 where
  sound : Input → InputLine
  faulty : ℕ → InputLine

-- the fields of a row line: `op,guard,addr,value`
abbrev pub input_fields : ℕ
input_fields = 4

-- what the fields of a row line stand for
unfoldable pub input_read : Fields → InputLine
input_read (named name ns) = sound (record { op = op_named name; guard = get_or ns 0 0; addr = get_or ns 1 0; value = content_of (get_or ns 2 0) })
input_read (no_fields f) = faulty f

-- what a row line reads as
unfoldable pub parse_input : ℕ → Line → InputLine
parse_input q line = input_read (fields_of q input_fields line)

-- the row after k rows is an init row or an operation; its fault by its form, or 0
unfoldable pub input_line_fault : ℕ → Memory → ℕ → ℕ → InputLine → ℕ
input_line_fault q m n k (sound i) = input_fault q m (ops_due m (cond (ltb k n) Starting Operating)) i
input_line_fault q m n k (faulty f) = f

-- "1 to 7 by line": the first fault of the row lines, the first of which is the row after k rows, on line k + 4; size + count rows are due
unfoldable pub inputs_fault : ℕ → Memory → ℕ → ℕ → ℕ → List InputLine → Refusal
inputs_fault q m n t k [] = cond (ltb k (n + t)) (refusal 7 (k + first_line)) (refusal 0 0)
inputs_fault q m n t k (x ∷ xs) =
    let f = cond (ltb k (n + t)) (input_line_fault q m n k x) 7 in
    let rest = inputs_fault q m n t (suc k) xs in
    cond (eqb f 0) rest (refusal f (k + first_line))

unfoldable pub input_of_line : InputLine → List Input
input_of_line (sound i) = i ∷ []
input_of_line (faulty f) = []

unfoldable pub inputs_of_lines : List InputLine → List Input
inputs_of_lines [] = []
inputs_of_lines (x ∷ xs) = input_of_line x ++ inputs_of_lines xs

-- "then 11 to 13, row k being line k + 3": what is printed for rows of the right form
unfoldable pub run_text : ℕ → Memory → ℕ → ℕ → List Input → List ℕ
run_text q m n t rows =
    let f = rows_fault q m (map (λ i. i.value) (take n rows)) 1 (take n rows) (drop n rows) in
    cond (eqb f.number 0) (filled_text (filled_rows m t (take n rows) (drop n rows))) (refusal_text f.number (f.place + head_lines))

unfoldable pub inputs_text : ℕ → Memory → ℕ → ℕ → List InputLine → List ℕ
inputs_text q m n t xs =
    let f = inputs_fault q m n t 0 xs in
    cond (eqb f.number 0) (run_text q m n t (inputs_of_lines xs)) (refusal_text f.number f.line)

-- the lines from line 3 on, after a value line
unfoldable pub job_text : ℕ → Job → List Line → List ℕ
job_text q (no_job f) lines = refusal_text f 2
job_text q (job m n t) [] = refusal_text 7 3
job_text q (job m n t) (line ∷ lines) =
    cond (eqb (names_fault input_names line) 0) (inputs_text q m n t (map (parse_input q) lines)) (refusal_text (names_fault input_names line) 3)

-- the lines from line 2 on
unfoldable pub job_lines_text : ℕ → List Line → List ℕ
job_lines_text q [] = refusal_text 7 2
job_lines_text q (line ∷ lines) = job_text q (parse_job q line) lines

-- what the filling program prints for its input
unfoldable pub fill_lines_text : ℕ → List Line → List ℕ
fill_lines_text q [] = refusal_text 1 1
fill_lines_text q (line ∷ lines) =
    cond (eqb (names_fault fill_names line) 0) (job_lines_text q lines) (refusal_text (names_fault fill_names line) 1)

unfoldable pub fill_text : ℕ → List ℕ → List ℕ
fill_text q bytes = fill_lines_text q (lines_of bytes)
