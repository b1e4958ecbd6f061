-- What the filling program prints: where the lent slices have room for 128 init rows and 128
-- operations, `start`, any number of `advance`, and `finish` print what the definition of the
-- program says of all the bytes that were read.
-- Assumes nothing.
use Prim.Native.Nat.{ℕ, zero, suc, ◌+◌, ◌-◌, ◌*◌, ◌≤◌}
use native.Mathlib.Omega.{arith}
use mathlib.Core.Path.{◌≡◌, refl, sym, ◌∙◌, ap}
use mathlib.Core.Bool.{Bool, true, false, cond}
use mathlib.Core.List.{List, [], ◌∷◌, ◌++◌, map}
use lib.Dec.{eqb}
use lib.ListN.{length, take, drop, length-append, length-take, length-drop, take-append-drop}
use lib.Seq.{take-suc, take_all}
use borrow.Author.Tests.{eq-eqb, le-leb}
use Rattle.field.specs.declared.moduli.Modulus.{Modulus}
use Rattle.field.specs.Moduli.{modulus_of}
use Rattle.memory.specs.declared.Memory.{Memory}
use Rattle.memory.specs.declared.Row.{Row}
use Rattle.runs.specs.declared.Intake.{Intake}
use Rattle.memory.specs.declared.Phase.TheVariants.{Starting}
use Rattle.memory.specs.Rows.{allowed, ops_due}
use Rattle.memory.specs.File.{no_row}
use Rattle.runs.specs.Plain.{start, after}
use Rattle.memory.specs.Step.{top, raise}
use Rattle.runs.specs.Honest.{Input, filled_rows, input_operation}
use Rattle.runs.specs.Filler.{inputs_in, row_numbers, room, Placed, placed, operation_fault, operations_fault, input_fault, rows_fault, filled_with, row_refused, fill_rows, fill_memory, fill_of}
use Rattle.memory.specs.Names.{memory_code}
use Rattle.memory.specs.Print.{filled_text, refusal_text}
use Rattle.runs.specs.FillFile.{fill_limit, fill_allowed, run_text, fill_text}
use Rattle.memory.specs.Pieces.{Piece, piece, bytes_in, last_in, end_in}
use Rattle.runs.specs.FillStream.{Gathered, gathered, untaken, line_taken, end_taken, gathered_text, due_words, unfilled, fill_end, rows_due}
use Rattle.memory.proofs.ReadRows.{both_pass}
use Rattle.runs.proofs.FillerRows.{memory_coded_lem}
use Rattle.memory.proofs.Pieces.{last_cut}
use Rattle.runs.proofs.FillStream.{Fitted, fitted_end, end_values, cut_line, fill_limited, fill_stream_is_text}
use Rattle.runs.proofs.FillLength.{fill_text_short}
use Rattle.pieces.specs.Block.{LinesTaken}
use Rattle.pieces.specs.Calls.{started, joined}
use Rattle.pieces.proofs.Feeds.{block_read}
use Rattle.pieces.proofs.Calls.{calls_read}
use Rattle.std.specs.Prelude.{Option}
use Rattle.text.proofs.Written.{put_at_start, written_at_start}
use Rattle.filler.specs.Answer.{filled_of}
use Rattle.print.proofs.Rows.{row_in_numbers}
use Rattle.fillfile.specs.Ending.{output_rows, answer_text, ended_by, refused_with, ending_of, Ended, end_of}
use Rattle.pieces.specs.declared.Progress.{Progress}
use Rattle.pieces.specs.declared.Taken.{Taken}
use Rattle.fillfile.specs.Progress.{begun, left_by}
use Rattle.fillfile.specs.Statements.{PiecesAreText}
use Rattle.fillfile.proofs.Texts.{Putting, put_text}

-- the rows that are read back from their numbers
first_rows : (rows : List Row) (rest : List ℕ) (k : ℕ) → k ≤ length rows → output_rows k (row_numbers rows ++ rest) ≡ take k rows
unfolding output_rows
first_rows rows rest zero h = refl
first_rows rows rest (suc k) h =
    rw (first_rows rows rest k (omega arith), row_in_numbers rows rest k no_row h) (sym (take-suc rows k no_row h))

all_rows : (rows : List Row) (rest : List ℕ) → output_rows (length rows) (row_numbers rows ++ rest) ≡ rows
all_rows rows rest = first_rows rows rest (length rows) (omega arith) ∙ take_all (length rows) rows (omega arith)

-- a refusal's place is at most the number of rows
placed_within : (b : Bool) (rest : Placed) (f k n : ℕ) → rest.place ≤ n → k ≤ n → (cond b rest (placed f k)).place ≤ n
unfolding placed
placed_within true rest f k n h g = h
placed_within false rest f k n h g = g

operations_placed : (q : ℕ) (m : Memory) (content : List ℕ) (k : ℕ) (ops : List Input) → (operations_fault q m content k ops).place ≤ k + length ops
unfolding operations_fault placed
operations_placed q m content k [] = omega arith
operations_placed q m content k (i ∷ is) =
    let rest = operations_placed q m (after content (input_operation m i)) (suc k) is in
    placed_within (eqb (operation_fault q m content i) 0) (operations_fault q m (after content (input_operation m i)) (suc k) is) _ k (k + suc (length is)) (omega arith) (omega arith)

rows_placed : (q : ℕ) (m : Memory) (values : List ℕ) (k : ℕ) (inits ops : List Input) → (rows_fault q m values k inits ops).place ≤ k + length inits + length ops
unfolding rows_fault
rows_placed q m values k [] ops = omega (arith, operations_placed q m (start m values) k ops)
rows_placed q m values k (i ∷ is) ops =
    let rest = rows_placed q m values (suc k) is ops in
    let f = input_fault q m (ops_due m Starting) i in
    placed_within (eqb f 0) (rows_fault q m values (suc k) is ops) f k (k + suc (length is) + length ops) (omega arith) (omega arith)

inputs_short : (ws : List ℕ) → length (inputs_in ws) ≤ length ws
unfolding inputs_in
inputs_short [] = omega arith
inputs_short (o ∷ []) = omega arith
inputs_short (o ∷ g ∷ []) = omega arith
inputs_short (o ∷ g ∷ a ∷ []) = omega arith
inputs_short (o ∷ g ∷ a ∷ v ∷ rest) = omega (arith, inputs_short rest)

module _ (q : ℕ) (m : Memory) (n t : ℕ) (ws out scratch : List ℕ) (fit : allowed m n t ≡ true) (all : length ws ≡ 4 * (n + t)) (few : n + t ≤ 256) (wide : 7 * room n t ≤ length out) (deep : room n t ≤ length scratch) where
  inits : List Input
  inits = take n (inputs_in ws)

  ops : List Input
  ops = drop n (inputs_in ws)

  -- the library tests none of 4, 7, 14 and 15
  fills : fill_of q (memory_code m) n t ws out scratch ≡ fill_rows q m t inits ops out scratch
  unfolding fill_of fill_memory inits ops
  fills =
      rw (
        memory_coded_lem m,
        fit,
        eq-eqb (length ws) (4 * (n + t)) all,
        le-leb (7 * room n t) (length out) wide,
        le-leb (room n t) (length scratch) deep,
      )
      refl

  place_small : (rows_fault q m (map (λ i. i.value) inits) 1 inits ops).place + 3 ≤ 4294967295
  unfolding inits ops
  place_small =
      let halves : length inits + length ops ≡ length (inputs_in ws) = sym (length-append inits ops) ∙ ap length (take-append-drop n (inputs_in ws)) in
      omega (arith, rows_placed q m (map (λ i. i.value) inits) 1 inits ops, halves, inputs_short ws)

  -- so what is printed of what it leaves is what is printed of the rows
  fill_text_lem : (ended_by (fill_of q (memory_code m) n t ws out scratch)).text ≡ run_text q m n t (inputs_in ws)
  unfolding ended_by answer_text filled_of fill_rows run_text filled_with row_refused inits ops
  fill_text_lem = rw fills (go (eqb f.number 0) refl)
    where
      f : Placed
      f = rows_fault q m (map (λ i. i.value) (take n (inputs_in ws))) 1 (take n (inputs_in ws)) (drop n (inputs_in ws))

      rows : List Row
      rows = filled_rows m t (take n (inputs_in ws)) (drop n (inputs_in ws))

      go : (b : Bool) → eqb f.number 0 ≡ b
          → (ended_by (cond b (filled_with rows out scratch) (row_refused f out scratch))).text ≡ cond b (filled_text rows) (refusal_text f.number (f.place + 3))
      go true e = ap filled_text (all_rows rows (drop (length (row_numbers rows)) out))
      go false e = rw e (ap (refusal_text f.number) (unfold raise top in omega (arith, place_small)))

module _ (q : ℕ) (out scratch : List ℕ) (wide : 4480 ≤ length out) (deep : 640 ≤ length scratch) where
  -- the end of input, where size and count are taken and there is room for all
  ending_text : (k : ℕ) (g : Gathered) → Fitted k g → 1024 ≤ k → (ending_of q g out scratch).text ≡ gathered_text q g
  unfolding ending_of gathered_text refused_with
  ending_text k g h many = go (eqb x.answer 0)
    where
      i : Intake
      i = g.intake

      x : Intake
      x = end_taken i

      same : (x.memory ≡ i.memory) × (x.size ≡ i.size) × (x.count ≡ i.count)
      same = end_values i

      taken : fill_allowed x.memory x.size x.count ≡ true
      taken = rw (same.0, same.1, same.2) h.limits

      small : (x.size ≤ 128) × (x.count ≤ 128)
      small = fill_limited x.memory x.size x.count taken

      go : (b : Bool)
          → (cond b (ended_by (fill_of q (memory_code x.memory) x.size x.count (due_words g) out scratch)) (refused_with x.answer x.line out scratch)).text
          ≡ cond b (run_text q x.memory x.size x.count (inputs_in (due_words g))) (refusal_text x.answer x.line)
      go true =
          fill_text_lem q x.memory x.size x.count (due_words g) out scratch (unfold fill_allowed in (both_pass (allowed x.memory x.size x.count) _ taken).0)
          (unfold due_words rows_due in omega (arith, length-take (4 * (i.size + i.count)) g.words, h.room, same.1, same.2, small.0, small.1))
          (omega (arith, small.0, small.1))
          (unfold room in omega (arith, small.0, small.1))
          (unfold room in omega (arith, small.0, small.1))
      go false = refl

  -- so the program prints what its definition says of its input
  pub program_text : (input words : List ℕ) → 1024 ≤ length words
      → (ending_of q (end_in (line_taken q) (bytes_in (line_taken q) (unfilled words) input)) out scratch).text ≡ fill_text q input
  unfolding fill_end fill_limit
  program_text input words many =
      ending_text (length words) (end_in (line_taken q) (bytes_in (line_taken q) (unfilled words) input)) (fitted_end q input words) many
      ∙ fill_stream_is_text q input words many

  -- a whole input at once: its whole lines, and its last line if that is not ended
  pub whole_input :
      (input words : List ℕ) → 1024 ≤ length words → (k : Modulus) (was : Progress Intake) → was ≡ begun k → (stored : List ℕ) (taken : Taken Intake) → LinesTaken (line_taken q) (gathered was.known words) input (gathered taken.known stored) taken.used
      → (i : Intake) (ws : List ℕ) → gathered i ws ≡ last_in (line_taken q) (gathered taken.known stored) (take (length input - taken.used) (drop taken.used input))
      → (filled cleared text printed : List ℕ) (r : Option ℕ) → Ended q (gathered i ws) out filled scratch cleared text printed r
      → Putting text 0 (fill_text q input) r printed
  unfolding begun unfilled end_in piece
  whole_input input words many k was e stored taken lines i ws last filled cleared text printed r ended =
      let s : Gathered = gathered taken.known stored in
      let rest = drop taken.used input in
      let all : length rest ≤ length input - taken.used = omega (arith, length-drop taken.used input) in
      let begins : LinesTaken (line_taken q) (gathered untaken words) input s taken.used = rw e at lines in
      let read = block_read (line_taken q) (cut_line q) (gathered untaken words) s input taken.used begins.lines begins.rest in
      let same : gathered i ws ≡ end_in (line_taken q) (bytes_in (line_taken q) (unfilled words) input) =
      last
      ∙ ap (last_in (line_taken q) s) (take_all (length input - taken.used) rest all)
      ∙ sym (last_cut (line_taken q) (cut_line q) s rest)
      ∙ ap (end_in (line_taken q)) (sym read) in
      put_text text 0 (ap (λ (g : Gathered). (ending_of q g out scratch).text) same ∙ program_text input words many) (ended.answer, ended.bytes)

-- an input in pieces, where there is room for all
pub pieces_are_text : PiecesAreText
unfolding left_by begun unfilled end_of fill_limit room started
pieces_are_text k words buffer calls h stored out filled scratch cleared text printed r lent finished =
    let q = modulus_of k in
    let input = joined calls in
    let read = calls_read Gathered (line_taken q) (gathered untaken words) buffer calls h in
    let same = ap (λ (v : Piece Gathered). (ending_of q (end_in (line_taken q) v) out scratch).text) read ∙ program_text q out scratch lent.output lent.counts input words lent.rows in
    let put = put_text text 0 same (finished.ended.answer, finished.ended.bytes) in
    let fits : length (fill_text q input) ≤ length text = omega (arith, fill_text_short q input, lent.bytes) in
    record {
      answer = put.0 ∙ put_at_start (length text) (fill_text q input) fits;
      bytes = ap (take (length (fill_text q input))) put.1 ∙ written_at_start text (fill_text q input) fits;
    }
