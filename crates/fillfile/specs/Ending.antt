-- What is printed where the input ends, by what the filler's library leaves in the lent slices.
-- Assumes nothing.
use Rattle.std.specs.Prelude.{ℕ, zero, suc, ◌≡◌, cond, List, [], ◌∷◌, ◌++◌, eqb, length, Option, Result, Ok, Err}
use Rattle.memory.specs.declared.Row.{Row}
use Rattle.memory.specs.Step.{raise}
use Rattle.runs.specs.Filler.{Filling, Placed, fill_of}
use Rattle.memory.specs.Names.{memory_code}
use Rattle.memory.specs.Print.{filled_text, refusal_text}
use Rattle.memory.specs.Pieces.{end_in}
use Rattle.runs.specs.FillStream.{Gathered, line_taken, end_taken, due_words}
use Rattle.pieces.specs.Calls.{Left, stands_for}
use Rattle.filler.specs.Answer.{filled_of}
use Rattle.text.specs.Put.{put_of, written}
use Rattle.print.specs.Rows.{row_in}

-- the first rows of a slice of output rows
unfoldable pub output_rows : ℕ → List ℕ → List Row
output_rows zero ws = []
output_rows (suc k) ws = output_rows k ws ++ row_in ws k ∷ []

-- the rows that were written, or the refusal; "row k being line k + 3". Free is what is printed of
-- the library's answers with place 0, which document 01 gives to the library alone: 7, 14 and 15
-- where the caller lends fewer words than 4 for each row, or less output or scratch than 2n + 3T
-- rows and words, and 4 where it hands on a size or count that no value line has. What holds then:
-- the answer is printed on line 3, and output and scratch are as they were.
unfoldable pub answer_text : Result ℕ Placed → List ℕ → List ℕ
answer_text (Ok count) output = filled_text (output_rows count output)
answer_text (Err refused) output = refusal_text refused.number (raise refused.place 3)

-- What is printed where the input ends, and the lent slices afterwards
pub record Ending : Type 0 where
  pub text : List ℕ
  pub output : List ℕ
  pub scratch : List ℕ

unfoldable pub ended_by : Filling → Ending
ended_by f = record { text = answer_text (filled_of f) f.output; output = f.output; scratch = f.scratch }

unfoldable pub refused_with : ℕ → ℕ → List ℕ → List ℕ → Ending
refused_with f l out scratch = record { text = refusal_text f l; output = out; scratch = scratch }

-- the fault, or what the filler's library makes of the rows, modulo q
unfoldable pub ending_of : ℕ → Gathered → List ℕ → List ℕ → Ending
ending_of q g out scratch =
    let i = end_taken g.intake in
    cond (eqb i.answer 0) (ended_by (fill_of q (memory_code i.memory) i.size i.count (due_words g) out scratch))
    (refused_with i.answer i.line out scratch)

-- after the last line: what is printed, and the lent slices
pub record Ended (q : ℕ) (g : Gathered) (out filled scratch cleared text printed : List ℕ) (r : Option ℕ) : Type 0 where
  pub output : filled ≡ (ending_of q g out scratch).output
  pub scratch_words : cleared ≡ (ending_of q g out scratch).scratch
  pub answer : r ≡ put_of (length text) 0 (ending_of q g out scratch).text
  pub bytes : printed ≡ written text 0 (ending_of q g out scratch).text

-- what the lines leave where the input ends, after what the last call left
unfoldable pub end_of : ℕ → Left Gathered → Gathered
end_of q l = end_in (line_taken q) (stands_for l)

-- The end of input: what is printed, and the lent slices
pub record Finished (q : ℕ) (l : Left Gathered) (stored out filled scratch cleared text printed : List ℕ) (r : Option ℕ) : Type 0 where
  pub rows : stored ≡ (end_of q l).words
  pub ended : Ended q (end_of q l) out filled scratch cleared text printed r
