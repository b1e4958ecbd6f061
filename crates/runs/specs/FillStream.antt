-- The filling program's input read in pieces: what its lines leave, one line more, the end of input, and what is printed. The code is equated with these
-- definitions; they are total, for every intake and every slice of words. A line's number that has reached the largest number of its type stays there.
-- Assumes nothing.
use Rattle.std.specs.Prelude.{ℕ, ◌+◌, ◌*◌, Bool, ◌&&◌, ◌||◌, cond, List, [], ◌∷◌, eqb, leb, ltb, take}
use Rattle.std.proofs.lemmas.List.Edits.{sets}
use Rattle.memory.specs.declared.Memory.TheVariants.{Ram}
use Rattle.runs.specs.declared.Intake.{Intake}
use Rattle.memory.specs.Bytes.{Line}
use Rattle.memory.specs.Names.{fill_names, input_names, op_code}
use Rattle.memory.specs.Content.{number_of}
use Rattle.memory.specs.File.{names_fault}
use Rattle.memory.specs.Step.{raise}
use Rattle.runs.specs.Honest.{Input}
use Rattle.runs.specs.Filler.{inputs_in}
use Rattle.memory.specs.Print.{refusal_text}
use Rattle.runs.specs.FillFile.{Job, job, no_job, parse_job, InputLine, sound, faulty, parse_input, input_line_fault, run_text}
use Rattle.memory.specs.Pieces.{Piece, piece, end_in}

-- What the lines that are read leave: the intake, and the words of the rows, 4 a row
pub record Gathered : Type 0 where
  pub intake : Intake
  pub words : List ℕ

unfoldable pub gathered : Intake → List ℕ → Gathered
gathered i ws = record { intake = i; words = ws }

-- "the first fault in line order wins": a fault on a line
unfoldable pub refuse_on : Intake → ℕ → ℕ → Intake
refuse_on i f l = record {
  place = i.place;
  memory = i.memory;
  size = i.size;
  count = i.count;
  passed = i.passed;
  answer = f;
  line = l;
}

-- the next line is line k
unfoldable pub move_to : Intake → ℕ → Intake
move_to i k = record {
  place = k;
  memory = i.memory;
  size = i.size;
  count = i.count;
  passed = i.passed;
  answer = i.answer;
  line = i.line;
}

-- no line is read yet; the memory stands for none
unfoldable pub untaken : Intake
untaken = record { place = 1; memory = Ram; size = 0; count = 0; passed = 0; answer = 0; line = 0 }

-- line 1 and line 3, by the fault of their names
unfoldable pub names_taken : Intake → ℕ → ℕ → Intake
names_taken i k f = cond (eqb f 0) (move_to i (k + 1)) (refuse_on i f k)

-- the value line
unfoldable pub job_taken : Intake → Job → Intake
job_taken i (job m n t) = record { place = 3; memory = m; size = n; count = t; passed = 0; answer = 0; line = 0 }
job_taken i (no_job f) = refuse_on i f 2

-- size + count rows are due; the row after those that have passed stands on line passed + 4
unfoldable pub rows_due : Intake → ℕ
rows_due i = i.size + i.count

unfoldable pub refuse_row : Intake → ℕ → Intake
refuse_row i f = refuse_on i f (raise i.passed 4)

-- a row has passed
unfoldable pub pass_row : Intake → Intake
pass_row i = record {
  place = i.place;
  memory = i.memory;
  size = i.size;
  count = i.count;
  passed = raise i.passed 1;
  answer = i.answer;
  line = i.line;
}

-- row k in the slice of words
unfoldable pub stored_at : List ℕ → ℕ → Input → List ℕ
stored_at ws k x = sets ws (4 * k) (op_code x.op ∷ x.guard ∷ x.addr ∷ number_of x.value ∷ [])

-- a row that is due: it is stored, or its fault is the refusal
unfoldable pub input_taken : ℕ → Gathered → InputLine → Gathered
input_taken q g (faulty f) = gathered (refuse_row g.intake f) g.words
input_taken q g (sound x) =
    let i = g.intake in
    let f = input_line_fault q i.memory i.size i.passed (sound x) in
    cond (eqb f 0) (gathered (pass_row i) (stored_at g.words i.passed x)) (gathered (refuse_row i f) g.words)

-- a row line; a surplus one is 7
unfoldable pub row_taken : ℕ → Gathered → Line → Gathered
row_taken q g line =
    cond (ltb g.intake.passed (rows_due g.intake)) (input_taken q g (parse_input q line))
    (gathered (refuse_row g.intake 7) g.words)

-- a line where there is no fault yet
unfoldable pub open_line : ℕ → Gathered → Line → Gathered
open_line q g line =
    let i = g.intake in
    cond (eqb i.place 1) (gathered (names_taken i 1 (names_fault fill_names line)) g.words)
    (cond (eqb i.place 2) (gathered (job_taken i (parse_job q line)) g.words)
    (cond (eqb i.place 3) (gathered (names_taken i 3 (names_fault input_names line)) g.words)
    (row_taken q g line)))

-- any line: after a fault nothing is read
unfoldable pub line_taken : ℕ → Gathered → Line → Gathered
line_taken q g line = cond (eqb g.intake.answer 0) (open_line q g line) g

-- where the lines end: 1 for an empty input, 7 for a missing line 2 or 3 and for a missing row
unfoldable pub end_fault : Intake → Intake
end_fault i =
    cond (eqb i.place 1) (refuse_on i 1 1)
    (cond (eqb i.place 2) (refuse_on i 7 2)
    (cond (eqb i.place 3) (refuse_on i 7 3)
    (cond (ltb i.passed (rows_due i)) (refuse_row i 7) i)))

unfoldable pub end_taken : Intake → Intake
end_taken i = cond (eqb i.answer 0) (end_fault i) i

-- the words of the rows that are due
unfoldable pub due_words : Gathered → List ℕ
due_words g = take (4 * rows_due g.intake) g.words

-- what is printed after the last line: the fault, or what the filler makes of the rows
unfoldable pub gathered_text : ℕ → Gathered → List ℕ
gathered_text q g =
    let i = end_taken g.intake in
    cond (eqb i.answer 0) (run_text q i.memory i.size i.count (inputs_in (due_words g))) (refusal_text i.answer i.line)

-- before the first byte, with any words for the rows
unfoldable pub unfilled : List ℕ → Piece Gathered
unfilled ws = piece (gathered untaken ws) []

-- what is printed where the input ends
unfoldable pub fill_end : ℕ → Piece Gathered → List ℕ
fill_end q v = gathered_text q (end_in (line_taken q) v)

-- what the filler's library may answer then: 0, or 11 to 13
unfoldable pub late : ℕ → Bool
late f = eqb f 0 || (leb 11 f && leb f 13)
