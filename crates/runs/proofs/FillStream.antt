-- The filling program's input read in pieces, cut anywhere: what is printed where the input ends is what the definition of the program says.
-- Assumes nothing.
use Prim.Native.Nat.{ℕ, suc, ◌+◌, ◌*◌, ◌≤◌, ◌<◌}
use native.Mathlib.Numerals.{add-one}
use native.Mathlib.Omega.{arith}
use mathlib.Core.Path.{◌≡◌, refl, sym, ◌∙◌, ap}
use mathlib.Core.Bool.{Bool, true, false, cond}
use Rattle.std.specs.Prelude.{Option, None, Some}
use mathlib.Core.List.{List, [], ◌∷◌, ◌++◌, map, append-nil, append_assoc}
use lib.Dec.{eqb, leb, ltb, lit≤}
use lib.ListN.{length, take, drop, length-append}
use lib.Seq.{length-sets, sets-eq, take_at}
use borrow.Author.Tests.{leb-true, ltb-true, ltb-false}
use Rattle.memory.specs.declared.Memory.{Memory}
use Rattle.memory.specs.Content.{number_of}
use Rattle.runs.specs.declared.Intake.{Intake}
use Rattle.memory.specs.Text.{bytes}
use Rattle.memory.specs.Bytes.{Line, longest, lines_of}
use Rattle.memory.specs.Names.{fill_names, input_names, memory_named, op_code}
use Rattle.memory.specs.Rows.{limit, sized, allowed}
use Rattle.memory.specs.File.{Refusal, refusal, names_fault}
use Rattle.memory.specs.Step.{top, raise}
use Rattle.runs.specs.Honest.{Input}
use Rattle.runs.specs.Filler.{inputs_in, input_numbers}
use Rattle.memory.specs.Print.{refusal_text}
use Rattle.runs.specs.FillFile.{fill_limit, fill_allowed, Job, job, no_job, job_fields, job_of, job_read, parse_job, InputLine, sound, faulty, input_fields, input_read, parse_input, input_line_fault, inputs_fault, input_of_line, inputs_of_lines, run_text, inputs_text, job_text, job_lines_text, fill_lines_text, fill_text}
use Rattle.memory.specs.Pieces.{cut, bytes_in, end_in}
use Rattle.memory.proofs.Content.{Single}
use Rattle.runs.specs.FillStream.{Gathered, gathered, refuse_on, move_to, untaken, names_taken, job_taken, rows_due, refuse_row, pass_row, stored_at, input_taken, row_taken, open_line, line_taken, end_fault, end_taken, due_words, gathered_text, unfilled, fill_end}
use Rattle.runs.specs.Statements.{FillStreamIsText}
use Rattle.memory.proofs.ReadFields.{decided, read_fields, long_fields}
use Rattle.memory.proofs.ReadRows.{both_pass}
use Rattle.runs.proofs.FillerRows.{SingleInputs, single_append, inputs_coded, input_numbers_length}
use Rattle.memory.proofs.Pieces.{line_with, cut_reads, cut_names, lines_in, pieces_are_lines}

-- A line is read from what is kept of it
fill_names_fit : length fill_names ≤ longest
unfolding fill_names bytes longest
fill_names_fit = lit≤ tt

input_names_fit : length input_names ≤ longest
unfolding input_names bytes longest
input_names_fit = lit≤ tt

cut_job : (q : ℕ) (text : List ℕ) (ended : Bool) → parse_job q (line_with (cut text) ended) ≡ parse_job q (line_with text ended)
unfolding parse_job job_read
cut_job q text ended = cut_reads (parse_job q) (no_job 2) (λ t e long. ap job_read (long_fields q job_fields (line_with t e) long)) text ended

cut_input : (q : ℕ) (text : List ℕ) (ended : Bool) → parse_input q (line_with (cut text) ended) ≡ parse_input q (line_with text ended)
unfolding parse_input input_read
cut_input q text ended = cut_reads (parse_input q) (faulty 2) (λ t e long. ap input_read (long_fields q input_fields (line_with t e) long)) text ended

pub cut_line : (q : ℕ) (g : Gathered) (text : List ℕ) (ended : Bool) → line_taken q g (line_with (cut text) ended) ≡ line_taken q g (line_with text ended)
unfolding line_taken open_line row_taken
cut_line q g text ended =
    simp (cut_job, cut_input, cut_names fill_names fill_names_fit, cut_names input_names input_names_fit)

-- After a fault nothing is read, and the fault is printed
lines_fixed : (q : ℕ) (g : Gathered) (lines : List Line) → eqb g.intake.answer 0 ≡ false → lines_in (line_taken q) g lines ≡ g
unfolding lines_in line_taken
lines_fixed q g [] e = refl
lines_fixed q g (line ∷ lines) e = rw e (lines_fixed q g lines e)

refused_text : (q : ℕ) (i : Intake) (ws : List ℕ) (f l : ℕ) (lines : List Line) → eqb f 0 ≡ false
    → gathered_text q (lines_in (line_taken q) (gathered (refuse_on i f l) ws) lines) ≡ refusal_text f l
unfolding gathered_text end_taken gathered refuse_on
refused_text q i ws f l lines e = rw (lines_fixed q (gathered (refuse_on i f l) ws) lines e, e) (rw e refl)

-- a line's number is not near the largest number
raise_small : (k j : ℕ) → k + j ≤ 4294967295 → raise k j ≡ k + j
unfolding raise top
raise_small k j h = omega arith

-- The numbers of a row are stored behind those of the rows before it
input_numbers_append : (xs ys : List Input) → input_numbers (xs ++ ys) ≡ input_numbers xs ++ input_numbers ys
unfolding input_numbers
input_numbers_append [] ys = refl
input_numbers_append (x ∷ xs) ys =
    ap {B = List ℕ} (λ ns. op_code x.op ∷ x.guard ∷ x.addr ∷ number_of x.value ∷ ns) (input_numbers_append xs ys)

stored_length : (ws : List ℕ) (k : ℕ) (x : Input) → length (stored_at ws k x) ≡ length ws
unfolding stored_at
stored_length ws k x = length-sets ws (4 * k) (op_code x.op ∷ x.guard ∷ x.addr ∷ number_of x.value ∷ [])

stored_rows : (ws : List ℕ) (rows : List Input) (x : Input) → take (4 * length rows) ws ≡ input_numbers rows → 4 * length rows + 4 ≤ length ws
    → take (4 * length (rows ++ x ∷ [])) (stored_at ws (length rows) x) ≡ input_numbers (rows ++ x ∷ [])
unfolding stored_at input_numbers
stored_rows ws rows x here fits =
    let k = length rows in
    let new : List ℕ = op_code x.op ∷ x.guard ∷ x.addr ∷ number_of x.value ∷ [] in
    let behind = drop (4 * k + 4) ws in
    let long : length (input_numbers rows ++ new) ≡ 4 * length (rows ++ x ∷ []) =
    omega (arith, length-append rows (x ∷ []), length-append (input_numbers rows) new, input_numbers_length rows) in
    rw (sets-eq new ws (4 * k) fits, here)
    (take_at (input_numbers rows ++ new) behind _ long ∙ sym (input_numbers_append rows (x ∷ [])))

-- what is printed of a first fault, or of the rows where there is none
fault_or : ℕ → Memory → ℕ → ℕ → Refusal → List Input → List ℕ
fault_or q m n t f rows = cond (eqb f.number 0) (run_text q m n t rows) (refusal_text f.number f.line)

-- what reads as a row has a value that is nothing but its number; what reads as none has a fault
-- that is not 0
abbrev pub SingleOrFault : InputLine → Type 0
SingleOrFault (sound x) = Single x.value
SingleOrFault (faulty f) = eqb f 0 ≡ false

pub input_single_or_fault : (q : ℕ) (line : Line) → SingleOrFault (parse_input q line)
unfolding parse_input input_read
input_single_or_fault q line = read_fields (λ x. SingleOrFault (input_read x)) q input_fields refl refl (λ name ns many below. refl) line

-- The intake between two rows
rows_intake : Memory → ℕ → ℕ → ℕ → Intake
rows_intake m n t k = record { place = 4; memory = m; size = n; count = t; passed = k; answer = 0; line = 0 }

module _ (q : ℕ) (m : Memory) (n t : ℕ) (few : n + t ≤ 256) where
  -- the rows so far are in the words, and there are words for all that are due
  record Stored (ws : List ℕ) (rows : List Input) : Type 0 where
    here : take (4 * length rows) ws ≡ input_numbers rows
    single : SingleInputs rows
    due : length rows ≤ n + t
    room : 4 * (n + t) ≤ length ws

  between : List ℕ → List Input → Gathered
  between ws rows = gathered (rows_intake m n t (length rows)) ws

  -- a row that has passed
  row_passes : (ws : List ℕ) (rows : List Input) (x : Input) → length rows < n + t
      → gathered (pass_row (rows_intake m n t (length rows))) (stored_at ws (length rows) x) ≡ between (stored_at ws (length rows) x) (rows ++ x ∷ [])
  unfolding pass_row rows_intake between
  row_passes ws rows x h =
      let more : raise (length rows) 1 ≡ length (rows ++ x ∷ []) = raise_small (length rows) 1 (omega arith) ∙ sym (length-append rows (x ∷ [])) in
      ap (λ (k : ℕ). gathered (rows_intake m n t k) (stored_at ws (length rows) x)) more

  stored_more : (ws : List ℕ) (rows : List Input) (x : Input) → Single x.value → Stored ws rows → length rows < n + t → Stored (stored_at ws (length rows) x) (rows ++ x ∷ [])
  stored_more ws rows x alone s h =
      record {
        here = stored_rows ws rows x s.here (omega (arith, s.room));
        single = single_append rows (x ∷ []) s.single (alone, tt);
        due = omega (arith, length-append rows (x ∷ []));
        room = rw (stored_length ws (length rows) x) s.room;
      }

  -- a fault of the next row
  row_refused_lem : (ws : List ℕ) (rows : List Input) (f : ℕ) (lines : List Line) → length rows ≤ n + t → eqb f 0 ≡ false
      → gathered_text q (lines_in (line_taken q) (gathered (refuse_row (rows_intake m n t (length rows)) f) ws) lines) ≡ refusal_text f (length rows + 4)
  unfolding refuse_row rows_intake
  row_refused_lem ws rows f lines h e =
      refused_text q (rows_intake m n t (length rows)) ws f (raise (length rows) 4) lines e
      ∙ ap (refusal_text f) (raise_small (length rows) 4 (omega arith))

  -- the rows that are due are in the words
  rows_end : (ws : List ℕ) (rows : List Input) → Stored ws rows → ltb (length rows) (n + t) ≡ false → inputs_in (take (4 * (n + t)) ws) ≡ rows
  rows_end ws rows s e =
      let all : n + t ≡ length rows = omega (arith, s.due, ltb-false (length rows) (n + t) e) in
      rw (all, s.here) (inputs_coded rows s.single)

  -- the lines end
  no_line : (ws : List ℕ) (rows : List Input) → Stored ws rows → gathered_text q (between ws rows) ≡ fault_or q m n t (inputs_fault q m n t (length rows) []) rows
  unfolding gathered_text between gathered rows_intake end_taken end_fault rows_due due_words inputs_fault fault_or
  no_line ws rows s = go (ltb (length rows) (n + t)) refl
    where
      k : ℕ
      k = length rows

      go : (b : Bool) → ltb k (n + t) ≡ b
          → (let i = cond b (refuse_row (rows_intake m n t k) 7) (rows_intake m n t k) in
          cond (eqb i.answer 0) (run_text q i.memory i.size i.count (inputs_in (take (4 * (n + t)) ws))) (refusal_text i.answer i.line))
          ≡ fault_or q m n t (cond b (refusal 7 (k + 4)) (refusal 0 0)) rows
      go true e = unfold refuse_row refuse_on refusal in ap (refusal_text 7) (raise_small k 4 (omega (arith, s.due)))
      go false e = unfold refusal in ap (run_text q m n t) (rows_end ws rows s e)

  -- the next row, and what is printed after it
  module _ (ws : List ℕ) (rows : List Input) (s : Stored ws rows) (lines : List Line) (xs : List InputLine)
      (rest : (vs : List ℕ) (is : List Input) → Stored vs is
      → gathered_text q (lines_in (line_taken q) (between vs is) lines) ≡ fault_or q m n t (inputs_fault q m n t (length is) xs) (is ++ inputs_of_lines xs))
    where
      row_stored : (x : Input) → Single x.value → length rows < n + t
          → gathered_text q (lines_in (line_taken q) (gathered (pass_row (rows_intake m n t (length rows))) (stored_at ws (length rows) x)) lines)
          ≡ fault_or q m n t (inputs_fault q m n t (suc (length rows)) xs) (rows ++ (x ∷ [] ++ inputs_of_lines xs))
      row_stored x alone h =
          let more : length (rows ++ x ∷ []) ≡ suc (length rows) = length-append rows (x ∷ []) ∙ add-one (length rows) in
          ap (λ (g : Gathered). gathered_text q (lines_in (line_taken q) g lines)) (row_passes ws rows x h)
          ∙ rest (stored_at ws (length rows) x) (rows ++ x ∷ []) (stored_more ws rows x alone s h)
          ∙ rw (more, append_assoc rows (x ∷ []) (inputs_of_lines xs)) refl

      row_due : (x : InputLine) → SingleOrFault x → length rows < n + t
          → gathered_text q (lines_in (line_taken q) (input_taken q (between ws rows) x) lines)
          ≡ fault_or q m n t
          (cond (eqb (input_line_fault q m n (length rows) x) 0) (inputs_fault q m n t (suc (length rows)) xs) (refusal (input_line_fault q m n (length rows) x) (length rows + 4)))
          (rows ++ (input_of_line x ++ inputs_of_lines xs))
      unfolding input_taken between gathered rows_intake fault_or refusal input_of_line input_line_fault
      row_due (faulty f) r h = rw r (rw r (row_refused_lem ws rows f lines s.due r))
      row_due (sound x) r h = go (eqb f 0) refl
        where
          f : ℕ
          f = input_line_fault q m n (length rows) (sound x)

          go : (b : Bool) → eqb f 0 ≡ b
              → gathered_text q
              (lines_in (line_taken q)
              (cond b (gathered (pass_row (rows_intake m n t (length rows))) (stored_at ws (length rows) x)) (gathered (refuse_row (rows_intake m n t (length rows)) f) ws))
              lines)
              ≡ fault_or q m n t (cond b (inputs_fault q m n t (suc (length rows)) xs) (refusal f (length rows + 4))) (rows ++ (x ∷ [] ++ inputs_of_lines xs))
          go true e = row_stored x r h
          go false e = rw e (row_refused_lem ws rows f lines s.due e)

      row_next : (line : Line)
          → gathered_text q (lines_in (line_taken q) (line_taken q (between ws rows) line) lines)
          ≡ fault_or q m n t (inputs_fault q m n t (length rows) (parse_input q line ∷ xs)) (rows ++ inputs_of_lines (parse_input q line ∷ xs))
      unfolding line_taken open_line row_taken rows_due between gathered rows_intake inputs_fault inputs_of_lines
      row_next line = go (ltb (length rows) (n + t)) refl (parse_input q line) (input_single_or_fault q line)
        where
          go : (b : Bool) → ltb (length rows) (n + t) ≡ b → (x : InputLine) → SingleOrFault x
              → gathered_text q
              (lines_in (line_taken q) (cond b (input_taken q (between ws rows) x) (gathered (refuse_row (rows_intake m n t (length rows)) 7) ws)) lines)
              ≡ fault_or q m n t
              (cond (eqb (cond b (input_line_fault q m n (length rows) x) 7) 0) (inputs_fault q m n t (suc (length rows)) xs)
              (refusal (cond b (input_line_fault q m n (length rows) x) 7) (length rows + 4)))
              (rows ++ (input_of_line x ++ inputs_of_lines xs))
          go true e x r = row_due x r (ltb-true (length rows) (n + t) e)
          go false e x r = unfold fault_or refusal in row_refused_lem ws rows 7 lines s.due refl

  -- the lines from line 4 on
  rows_text_lem : (ws : List ℕ) (rows : List Input) (lines : List Line) → Stored ws rows
      → gathered_text q (lines_in (line_taken q) (between ws rows) lines)
      ≡ fault_or q m n t (inputs_fault q m n t (length rows) (map (parse_input q) lines)) (rows ++ inputs_of_lines (map (parse_input q) lines))
  unfolding lines_in inputs_of_lines
  rows_text_lem ws rows [] s = no_line ws rows s ∙ ap (fault_or q m n t (inputs_fault q m n t (length rows) [])) (sym (append-nil rows))
  rows_text_lem ws rows (line ∷ lines) s =
      row_next ws rows s lines (map (parse_input q) lines) (λ vs is stored. rows_text_lem vs is lines stored) line

  inputs_text_lem : (ws : List ℕ) (lines : List Line) → 4 * (n + t) ≤ length ws
      → gathered_text q (lines_in (line_taken q) (gathered (rows_intake m n t 0) ws) lines) ≡ inputs_text q m n t (map (parse_input q) lines)
  unfolding between inputs_text fault_or input_numbers
  inputs_text_lem ws lines room = rows_text_lem ws [] lines (record { here = refl; single = tt; due = omega arith; room = room })

-- The value line: its memory, size and count are allowed, or its fault is not 0
abbrev Tested : Job → Type 0
Tested (job m n t) = fill_allowed m n t ≡ true
Tested (no_job f) = eqb f 0 ≡ false

job_of_tested : (m : Option Memory) (n t : ℕ) → Tested (job_of m n t)
unfolding job_of
job_of_tested None n t = refl
job_of_tested (Some m) n t = decided Tested (fill_allowed m n t) (λ e. e) refl

job_tested : (q : ℕ) (line : Line) → Tested (parse_job q line)
unfolding parse_job job_read
job_tested q line = read_fields (λ x. Tested (job_read x)) q job_fields refl refl (λ name ns many below. job_of_tested (memory_named name) _ _) line

-- "The filling program takes size and count up to 128"
pub fill_limited : (m : Memory) (n t : ℕ) → fill_allowed m n t ≡ true → (n ≤ 128) × (t ≤ 128)
unfolding fill_allowed fill_limit
fill_limited m n t e =
    let both = both_pass (leb n 128) (leb t 128) (both_pass (allowed m n t) _ e).1 in
    (leb-true n 128 both.0, leb-true t 128 both.1)

-- a names line, and what is printed after it
names_text : (q : ℕ) (i : Intake) (ws : List ℕ) (k f : ℕ) (lines : List Line) (a : List ℕ)
    → gathered_text q (lines_in (line_taken q) (gathered (move_to i (k + 1)) ws) lines) ≡ a
    → gathered_text q (lines_in (line_taken q) (gathered (names_taken i k f) ws) lines) ≡ cond (eqb f 0) a (refusal_text f k)
unfolding names_taken
names_text q i ws k f lines a h = go (eqb f 0) refl
  where
    go : (b : Bool) → eqb f 0 ≡ b
        → gathered_text q (lines_in (line_taken q) (gathered (cond b (move_to i (k + 1)) (refuse_on i f k)) ws) lines) ≡ cond b a (refusal_text f k)
    go true e = h
    go false e = refused_text q i ws f k lines e

module _ (q : ℕ) (ws : List ℕ) (room : 4 * (fill_limit + fill_limit) ≤ length ws) where
  -- the lines from line 3 on
  job_text_lem : (i : Intake) (x : Job) → Tested x → (lines : List Line)
      → gathered_text q (lines_in (line_taken q) (gathered (job_taken i x) ws) lines) ≡ job_text q x lines
  unfolding job_taken job_text lines_in
  job_text_lem i (no_job f) h lines = refused_text q i ws f 2 lines h
  job_text_lem i (job m n t) h [] = unfold gathered_text end_taken end_fault refuse_on gathered in refl
  job_text_lem i (job m n t) h (line ∷ lines) =
      let small = fill_limited m n t h in
      unfold line_taken open_line gathered move_to fill_limit rows_intake in
      names_text q _ ws 3 (names_fault input_names line) lines _ (inputs_text_lem q m n t (omega (arith, small.0, small.1)) ws lines (omega (arith, room, small.0, small.1)))

  -- the lines from line 2 on
  job_lines_text_lem : (lines : List Line) → gathered_text q (lines_in (line_taken q) (gathered (move_to untaken 2) ws) lines) ≡ job_lines_text q lines
  unfolding lines_in job_lines_text move_to untaken gathered
  job_lines_text_lem [] = unfold gathered_text end_taken end_fault refuse_on in refl
  job_lines_text_lem (line ∷ lines) = unfold line_taken open_line in job_text_lem _ (parse_job q line) (job_tested q line) lines

  -- all lines
  fill_lines_text_lem : (lines : List Line) → gathered_text q (lines_in (line_taken q) (gathered untaken ws) lines) ≡ fill_lines_text q lines
  unfolding lines_in fill_lines_text untaken gathered
  fill_lines_text_lem [] = unfold gathered_text end_taken end_fault refuse_on in refl
  fill_lines_text_lem (line ∷ lines) =
      unfold line_taken open_line in names_text q untaken ws 1 (names_fault fill_names line) lines (job_lines_text q lines) (job_lines_text_lem lines)

pub fill_stream_is_text : FillStreamIsText
unfolding fill_end unfilled fill_text
fill_stream_is_text q bytes ws room =
    ap (gathered_text q) (pieces_are_lines (line_taken q) (cut_line q) (gathered untaken ws) bytes) ∙ fill_lines_text_lem q ws room (lines_of bytes)

-- What every reading from the start keeps: size and count are taken by the program, and the words stay as many
pub record Fitted (k : ℕ) (g : Gathered) : Type 0 where
  pub limits : fill_allowed g.intake.memory g.intake.size g.intake.count ≡ true
  pub room : length g.words ≡ k

either : {A : Type 0} (P : A → Type 0) (b : Bool) (x y : A) → P x → P y → P (cond b x y)
either P true x y px py = px
either P false x y px py = py

module _ (k : ℕ) (q : ℕ) where
  -- an intake of the same memory, size and count
  fitted_with : (i j : Intake) (ws : List ℕ) → Fitted k (gathered i ws) → fill_allowed j.memory j.size j.count ≡ fill_allowed i.memory i.size i.count
      → Fitted k (gathered j ws)
  unfolding gathered
  fitted_with i j ws h e = record { limits = e ∙ h.limits; room = h.room }

  fitted_names : (i : Intake) (ws : List ℕ) (l f : ℕ) → Fitted k (gathered i ws) → Fitted k (gathered (names_taken i l f) ws)
  unfolding names_taken move_to refuse_on
  fitted_names i ws l f h =
      either (λ (j : Intake). Fitted k (gathered j ws)) (eqb f 0) (move_to i (l + 1)) (refuse_on i f l) (fitted_with i _ ws h refl) (fitted_with i _ ws h refl)

  fitted_job : (i : Intake) (ws : List ℕ) (x : Job) → Tested x → Fitted k (gathered i ws) → Fitted k (gathered (job_taken i x) ws)
  unfolding job_taken gathered refuse_on
  fitted_job i ws (job m n t) e h = record { limits = e; room = h.room }
  fitted_job i ws (no_job f) e h = record { limits = h.limits; room = h.room }

  fitted_refused : (i : Intake) (ws : List ℕ) (f : ℕ) → Fitted k (gathered i ws) → Fitted k (gathered (refuse_row i f) ws)
  unfolding refuse_row refuse_on
  fitted_refused i ws f h = fitted_with i _ ws h refl

  fitted_input : (g : Gathered) (x : InputLine) → Fitted k g → Fitted k (input_taken q g x)
  unfolding input_taken gathered pass_row
  fitted_input g (faulty f) h = fitted_refused g.intake g.words f h
  fitted_input g (sound x) h =
      let f = input_line_fault q g.intake.memory g.intake.size g.intake.passed (sound x) in
      either (Fitted k) (eqb f 0) _ _ (record { limits = h.limits; room = stored_length g.words g.intake.passed x ∙ h.room })
      (fitted_refused g.intake g.words f h)

  fitted_open : (g : Gathered) (line : Line) → Fitted k g → Fitted k (open_line q g line)
  unfolding open_line row_taken gathered
  fitted_open g line h =
      either (Fitted k) (eqb g.intake.place 1) _ _ (fitted_names g.intake g.words 1 (names_fault fill_names line) h)
      (either (Fitted k) (eqb g.intake.place 2) _ _ (fitted_job g.intake g.words (parse_job q line) (job_tested q line) h)
      (either (Fitted k) (eqb g.intake.place 3) _ _ (fitted_names g.intake g.words 3 (names_fault input_names line) h)
      (either (Fitted k) (ltb g.intake.passed (rows_due g.intake)) _ _ (fitted_input g (parse_input q line) h)
      (fitted_refused g.intake g.words 7 h))))

  fitted_lines : (g : Gathered) (lines : List Line) → Fitted k g → Fitted k (lines_in (line_taken q) g lines)
  unfolding lines_in line_taken
  fitted_lines g [] h = h
  fitted_lines g (line ∷ lines) h =
      fitted_lines (line_taken q g line) lines (either (Fitted k) (eqb g.intake.answer 0) (open_line q g line) g (fitted_open g line h) h)

-- so at the end of input
pub fitted_end : (q : ℕ) (bytes ws : List ℕ) → Fitted (length ws) (end_in (line_taken q) (bytes_in (line_taken q) (unfilled ws) bytes))
unfolding unfilled gathered untaken fill_allowed fill_limit
fitted_end q bytes ws =
    rw (pieces_are_lines (line_taken q) (cut_line q) (gathered untaken ws) bytes)
    (fitted_lines (length ws) q (gathered untaken ws) (lines_of bytes) (record { limits = unfold allowed sized limit in refl; room = refl }))

-- where the lines end, memory, size and count are those of the value line
same_values : Intake → Intake → Type 0
same_values i j = (j.memory ≡ i.memory) × (j.size ≡ i.size) × (j.count ≡ i.count)

pub end_values : (i : Intake) → ((end_taken i).memory ≡ i.memory) × ((end_taken i).size ≡ i.size) × ((end_taken i).count ≡ i.count)
unfolding end_taken end_fault refuse_row refuse_on same_values
end_values i =
    let P : Intake → Type 0 = same_values i in
    let same : P i = (refl, refl, refl) in
    either P (eqb i.answer 0) _ _
    (either P (eqb i.place 1) _ _ (refl, refl, refl)
    (either P (eqb i.place 2) _ _ (refl, refl, refl)
    (either P (eqb i.place 3) _ _ (refl, refl, refl) (either P (ltb i.passed (rows_due i)) _ _ (refl, refl, refl) same))))
    same
