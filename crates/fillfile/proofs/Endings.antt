-- The end of input: what is printed of the library's answer, and what is printed and left of the
-- lent slices after the last line.
-- Assumes nothing.
use Prim.Native.Nat.{ℕ, ◌*◌, min}
use native.Mathlib.Omega.{arith}
use mathlib.Core.Path.{◌≡◌, refl, sym, ◌∙◌, ap, ap₂}
use mathlib.Core.List.{List}
use lib.ListN.{length, take}
use borrow.Author.Tests.{eq-eqb, ne_eqb}
use Rattle.runs.specs.declared.Intake.{Intake}
use Rattle.runs.specs.Filler.{Filling, fill_of}
use Rattle.memory.specs.Names.{memory_code}
use Rattle.memory.specs.Print.{refusal_text}
use Rattle.memory.specs.Pieces.{piece, last_in, end_in}
use Rattle.runs.specs.FillStream.{Gathered, gathered, rows_due, line_taken, end_taken, due_words}
use Rattle.runs.proofs.FillStream.{end_values}
use Rattle.pieces.specs.Calls.{stands_for}
use Rattle.std.specs.Prelude.{Option, Result}
use Rattle.std.proofs.lemmas.List.{take_min}
use Rattle.faults.specs.declared.Refused.{Refused}
use Rattle.filler.specs.Answer.{filled_of, numbered_fill, Fills}
use Rattle.filler.proofs.Whole.{fills_same}
use Rattle.pieces.specs.declared.Progress.{Progress}
use Rattle.fillfile.specs.Progress.{left_by}
use Rattle.fillfile.specs.Ending.{answer_text, Ending, ended_by, refused_with, ending_of, Ended, end_of, Finished}
use Rattle.fillfile.proofs.Texts.{Putting, put_text}

-- where the lines end, size and count are those of the value line
end_due : (i : Intake) → rows_due (end_taken i) ≡ rows_due i
unfolding rows_due
end_due i = let same = end_values i in omega (arith, same.1, same.2)

-- an ending, by what is printed and left
ended_as : (q : ℕ) (g : Gathered) (out filled scratch cleared text printed : List ℕ) (r : Option ℕ) (e : Ending) → ending_of q g out scratch ≡ e → filled ≡ e.output → cleared ≡ e.scratch
    → Putting text 0 e.text r printed → Ended q g out filled scratch cleared text printed r
ended_as q g out filled scratch cleared text printed r e is output left put =
    let same = put_text text 0 (ap (λ (x : Ending). x.text) (sym is)) put in
    record {
      output = output ∙ ap (λ (x : Ending). x.output) (sym is);
      scratch_words = left ∙ ap (λ (x : Ending). x.scratch) (sym is);
      answer = same.0;
      bytes = same.1;
    }

module _ (q : ℕ) (i : Intake) (ws out scratch text : List ℕ) {x : Intake} (end : x ≡ end_taken i) {r : Option ℕ} {printed : List ℕ} where
  -- a fault
  pub ended_refused : (x.answer ≡ 0 → ⊥) → Putting text 0 (refusal_text x.answer x.line) r printed
      → Ended q (gathered i ws) out out scratch scratch text printed r
  unfolding ending_of gathered refused_with
  ended_refused some put =
      ended_as q (gathered i ws) out out scratch scratch text printed r (refused_with x.answer x.line out scratch)
      (rw (sym end, ne_eqb x.answer 0 some) refl)
      refl
      refl
      put

  -- what the library makes of the rows
  pub ended_filled : (x.answer ≡ 0) → (due count code : ℕ) → due ≡ rows_due x → count ≡ min (4 * due) (length ws) → code ≡ memory_code x.memory
      → (filled : Result ℕ Refused) (output cleared : List ℕ) → Fills (fill_of q code x.size x.count (take count ws) out scratch) filled output cleared
      → Putting text 0 (answer_text (numbered_fill filled) output) r printed → Ended q (gathered i ws) out output scratch cleared text printed r
  unfolding ending_of gathered due_words ended_by
  ended_filled none due count code dues counts codes filled output cleared fills put =
      let rows : take count ws ≡ take (4 * rows_due i) ws =
      ap (λ (n : ℕ). take n ws) counts ∙ take_min (4 * due) ws ∙ ap (λ (n : ℕ). take (4 * n) ws) (dues ∙ ap rows_due end ∙ end_due i) in
      let filling : Filling = fill_of q (memory_code x.memory) x.size x.count (take (4 * rows_due i) ws) out scratch in
      let left : Fills filling filled output cleared = fills_same fills (rw (codes, rows) refl) in
      let same : answer_text (numbered_fill filled) output ≡ answer_text (filled_of filling) filling.output = ap₂ answer_text left.answer left.output in
      ended_as q (gathered i ws) out output scratch cleared text printed r (ended_by filling)
      (rw (sym end, eq-eqb x.answer 0 none) refl)
      left.output
      left.words
      (put_text text 0 same put)

-- the end of input, with the kept bytes at the front of the buffer
pub finished : (q : ℕ) (was : Progress Intake) (buffer words : List ℕ) (count : ℕ) → count ≡ min was.kept (length buffer) → (i : Intake) (stored : List ℕ)
    → gathered i stored ≡ last_in (line_taken q) (gathered was.known words) (take count buffer) → (out filled scratch cleared text printed : List ℕ) (r : Option ℕ)
    → Ended q (gathered i stored) out filled scratch cleared text printed r → Finished q (left_by was words buffer) stored out filled scratch cleared text printed r
unfolding end_of end_in stands_for left_by piece gathered
finished q was buffer words count counts i stored last out filled scratch cleared text printed r ended =
    let front : take count buffer ≡ take was.kept buffer = ap (λ (n : ℕ). take n buffer) counts ∙ take_min was.kept buffer in
    let whole : gathered i stored ≡ end_of q (left_by was words buffer) =
    last ∙ ap (last_in (line_taken q) (gathered was.known words)) front in
    record {
      rows = ap (λ (g : Gathered). g.words) whole;
      ended = rw whole at ended;
    }
