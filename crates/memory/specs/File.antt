-- The whole file: from its bytes to answer, line, inputs and multiplications. Sections "The numbers" and "Files" of document 01.
-- Assumes nothing.
use Rattle.std.specs.Prelude.{ℕ, ◌+◌, cond, List, [], ◌∷◌, ◌++◌, map, eqb, ltb, length, get_or}
use Rattle.std.specs.Prelude.{Option, None, Some}
use Rattle.memory.specs.declared.Memory.{Memory}
use Rattle.memory.specs.declared.Op.TheVariants.{Other}
use Rattle.memory.specs.declared.Row.{Row}
use Rattle.memory.specs.Faults.{Parsed}
use Rattle.std.specs.Prelude.{Ok, Err}
use Rattle.memory.specs.declared.Challenge.{Challenge}
use Rattle.memory.specs.declared.Report.{Report}
use Rattle.memory.specs.Bytes.{Line, all_below, same, Fields, named, no_fields, fields_of, lines_of}
use Rattle.memory.specs.Names.{value_names, row_names, memory_named}
use Rattle.memory.specs.Content.{no_content}
use Rattle.memory.specs.Rows.{allowed, due_after, parse_row, line_fault}
use Rattle.memory.specs.Equations.{file_lists, range_balances, memory_balances}
use Rattle.memory.specs.Gates.{inputs_of, mults_of}

-- the row that a line reads as; where it reads as none, a row of no op
unfoldable pub no_row : Row
no_row = record { op = Other; guard = 0; addr = 0; value = no_content; old = no_content; time = 0; version = 0 }

unfoldable pub parsed_row : Parsed → Row
parsed_row (Ok row) = row
parsed_row (Err f) = no_row

-- the rows of a list of parsed rows, and what a list of lines reads as
unfoldable pub rows_of : List Parsed → List Row
rows_of parsed = map parsed_row parsed

unfoldable pub parse_rows : ℕ → List Line → List Parsed
parse_rows q lines = map (parse_row q) lines

-- a number of document 01's table and its line; 0 and 0 where no fault is met
pub record Refusal : Type 0 where
  pub number : ℕ
  pub line : ℕ

unfoldable pub refusal : ℕ → ℕ → Refusal
refusal f l = record { number = f; line = l }

-- the rows begin on line 4, after three lines
abbrev pub head_lines : ℕ
head_lines = 3

abbrev pub first_line : ℕ
first_line = 4

-- "the first fault in line order wins": the lines after the rows that have passed; the row after k rows stands on line k + 4.
-- 7: "file ends early, or a line follows the last due row"; "The line of 7 is the missing or surplus one"
unfoldable pub first_fault : ℕ → Memory → ℕ → ℕ → List Row → List Parsed → Refusal
first_fault q m n t rows [] = cond (ltb (length rows) (due_after m n t rows)) (refusal 7 (length rows + first_line)) (refusal 0 0)
first_fault q m n t rows (x ∷ xs) =
    let f = line_fault q m n t rows x in
    let rest = first_fault q m n t (rows ++ parsed_row x ∷ []) xs in
    cond (eqb f 0) rest (refusal f (length rows + first_line))

-- what is printed of a refused file, and of an accepted one: "answer (0 accept), line (0 if accepted), inputs, multiplications (0 if refused)"
unfoldable pub refused : ℕ → ℕ → Report
refused f l = record { answer = f; line = l; inputs = 0; mults = 0 }

unfoldable pub accepted : Memory → List Row → Report
accepted m rows = record { answer = 0; line = 0; inputs = inputs_of m rows; mults = mults_of m rows }

-- 9 and 10, at the end of file: "9 and 10 carry the last line's number."
unfoldable pub balance_report : ℕ → Memory → ℕ → ℕ → Challenge → List Row → Report
balance_report q m n t ch rows =
    let l = file_lists q m n t rows in
    cond (range_balances q ch l)
    (cond (memory_balances q ch l) (accepted m rows) (refused 10 (length rows + head_lines)))
    (refused 9 (length rows + head_lines))

-- 9 and 10 are looked for only where no line is refused
unfoldable pub rows_report : ℕ → Memory → ℕ → ℕ → Challenge → List Parsed → Report
rows_report q m n t ch xs =
    let f = first_fault q m n t [] xs in
    let b = balance_report q m n t ch (rows_of xs) in
    cond (eqb f.number 0) b (refused f.number f.line)

-- the fault of a value line's values, or 0. 3: "a number is p or more"; 4: "size or count not allowed"
unfoldable pub values_fault : ℕ → Memory → ℕ → ℕ → Challenge → ℕ
values_fault q m n t ch =
    cond (all_below q (n ∷ t ∷ ch.r ∷ ch.a ∷ ch.b ∷ ch.c ∷ [])) (cond (allowed m n t) 0 4) 3

-- a file whose value line has these values, and whose lines from line 4 on read so
unfoldable pub values_report : ℕ → Memory → ℕ → ℕ → Challenge → List Parsed → Report
values_report q m n t ch xs =
    let f = values_fault q m n t ch in
    let r = rows_report q m n t ch xs in
    cond (eqb f 0) r (refused f 2)

-- What a value line reads as: its values, or its fault
pub data Opening : Type 0 where
  opens : Memory → ℕ → ℕ → Challenge → Opening
  shut : ℕ → Opening

-- the fields of a value line: `memory,size,count,r,a,b,c`
abbrev pub value_fields : ℕ
value_fields = 7

-- the memory, and the numbers that follow it in these fields. 4: "unknown memory, size or count not
-- allowed"
unfoldable pub opened_by : Option Memory → List ℕ → Opening
opened_by None ns = shut 4
opened_by (Some m) ns =
    cond (allowed m (get_or ns 0 0) (get_or ns 1 0))
    (opens m (get_or ns 0 0) (get_or ns 1 0) (record { r = get_or ns 2 0; a = get_or ns 3 0; b = get_or ns 4 0; c = get_or ns 5 0 }))
    (shut 4)

-- what the fields of a value line stand for
unfoldable pub values_read : Fields → Opening
values_read (named name ns) = opened_by (memory_named name) ns
values_read (no_fields f) = shut f

-- what a value line reads as
unfoldable pub parse_values : ℕ → Line → Opening
parse_values q line = values_read (fields_of q value_fields line)

-- the fault of a names line, or 0. 1: "line 1 or 3, without its line feed, is not the names line"; 2: "without line feed"
unfoldable pub names_fault : List ℕ → Line → ℕ
names_fault names line = cond (same line.text names) (cond line.ended 0 2) 1

-- the lines from line 3 on, after a value line; 7 where there is none
unfoldable pub names_report : ℕ → Opening → List Line → Report
names_report q (shut f) lines = refused f 2
names_report q (opens m n t ch) [] = cond (eqb (values_fault q m n t ch) 0) (refused 7 3) (refused (values_fault q m n t ch) 2)
names_report q (opens m n t ch) (line ∷ lines) =
    let r = values_report q m n t ch (parse_rows q lines) in
    cond (eqb (values_fault q m n t ch) 0)
    (cond (eqb (names_fault row_names line) 0) r (refused (names_fault row_names line) 3))
    (refused (values_fault q m n t ch) 2)

-- the lines from line 2 on
unfoldable pub opening_report : ℕ → List Line → Report
opening_report q [] = refused 7 2
opening_report q (line ∷ lines) = names_report q (parse_values q line) lines

-- the lines of a file. 1: "or the file is empty"
unfoldable pub lines_report : ℕ → List Line → Report
lines_report q [] = refused 1 1
lines_report q (line ∷ lines) =
    let r = opening_report q lines in
    cond (eqb (names_fault value_names line) 0) r (refused (names_fault value_names line) 1)

-- what `check` prints for a file
unfoldable pub file_report : ℕ → List ℕ → Report
file_report q bytes = lines_report q (lines_of bytes)
