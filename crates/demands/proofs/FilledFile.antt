-- What the filling program prints, for any input: a refusal, or rows that are accepted behind the header of their memory, size and count at every challenge.
-- Assumes nothing.
use Prim.Native.Nat.{ℕ, suc, ◌+◌, ◌≤◌}
use native.Mathlib.Omega.{arith}
use mathlib.Core.Path.{◌≡◌, refl, sym, ◌∙◌, ap}
use mathlib.Core.Logic.{◌⊎◌, inl, inr}
use mathlib.Core.Bool.{Bool, true, false, ◌&&◌, cond}
use Rattle.std.specs.Prelude.{Option, None, Some}
use mathlib.Core.List.{List, [], ◌∷◌, ◌++◌, map}
use lib.Dec.{eqb, leb, ltb}
use lib.ListN.{length, get_or, take, drop, length-append, take-append-drop, length-drop}
use lib.Seq.{length-take-le}
use borrow.Author.Tests.{eqb-true, eqb-false, leb-true, ltb-true, ltb-false}
use Rattle.field.specs.declared.moduli.Modulus.TheVariants.{M31}
use Rattle.field.specs.Moduli.{modulus_of}
use Rattle.memory.specs.declared.Memory.{Memory}
use Rattle.memory.specs.declared.Op.{Op}
use Rattle.memory.specs.declared.Phase.TheVariants.{Starting, Operating}
use Rattle.memory.specs.Content.{number_of}
use Rattle.memory.specs.Bytes.{Line, same, all_below, lines_of}
use Rattle.memory.specs.Names.{fill_names, input_names, memory_named}
use Rattle.memory.specs.Rows.{allowed, ops_due, op_in, formed}
use Rattle.memory.specs.File.{Refusal, refusal, names_fault, file_report}
use Rattle.runs.specs.Honest.{Input, bare, filled_rows}
use Rattle.runs.specs.Filler.{Placed, input_fault, rows_fault}
use Rattle.memory.specs.Print.{refusal_text, filled_text, header_text}
use Rattle.runs.specs.FillFile.{fill_limit, fill_allowed, Job, job, no_job, job_fields, job_of, job_read, parse_job, InputLine, sound, faulty, input_fields, input_read, parse_input, input_line_fault, inputs_fault, input_of_line, inputs_of_lines, run_text, inputs_text, job_text, job_lines_text, fill_lines_text, fill_text}
use Rattle.runs.specs.FillStream.{late}
use Rattle.demands.specs.Statements.{Fillable, FillNumber, FillAccepted, FillingAccepted, FillingAtP}
use Rattle.memory.proofs.ReadFields.{decided, read_fields}
use Rattle.memory.proofs.ReadRows.{both_pass, chosen_zero}
use Rattle.runs.proofs.HonestLookups.{All}
use Rattle.demands.proofs.HonestFile.{honest_file_accepted, written_p}
use Rattle.demands.proofs.FillTested.{tested_rows_late}

-- A value line reads as a size and count that are allowed, or as a fault.
abbrev GoodJob : Job → Type 0
GoodJob (job m n t) = allowed m n t ≡ true
GoodJob (no_job f) = (1 ≤ f) × (f ≤ 7)

good_job_of : (k : Option Memory) (n t : ℕ) → GoodJob (job_of k n t)
unfolding job_of fill_allowed
good_job_of None n t = (omega arith, omega arith)
good_job_of (Some m) n t =
    decided GoodJob (fill_allowed m n t) (λ e. (both_pass (allowed m n t) (leb n fill_limit && leb t fill_limit) e).0) (omega arith, omega arith)

good_job : (q : ℕ) (line : Line) → GoodJob (parse_job q line)
unfolding parse_job job_read
good_job q line =
    read_fields (λ x. GoodJob (job_read x)) q job_fields (omega arith, omega arith) (omega arith, omega arith)
    (λ name ns many below. good_job_of (memory_named name) _ _)
    line

-- A row line reads as a row, or as a fault.
abbrev GoodLine : InputLine → Type 0
GoodLine (sound i) = Unit {0}
GoodLine (faulty f) = (1 ≤ f) × (f ≤ 7)

good_line : (q : ℕ) (line : Line) → GoodLine (parse_input q line)
unfolding parse_input input_read
good_line q line =
    read_fields (λ x. GoodLine (input_read x)) q input_fields (omega arith, omega arith) (omega arith, omega arith) (λ name ns many below. tt) line

good_lines : (q : ℕ) (lines : List Line) → All GoodLine (map (parse_input q) lines)
good_lines q [] = tt
good_lines q (line ∷ lines) = (good_line q line, good_lines q lines)

-- a line of no fault is one row
one_input : (q : ℕ) (m : Memory) (n k : ℕ) (x : InputLine) → GoodLine x → input_line_fault q m n k x ≡ 0 → length (input_of_line x) ≡ 1
unfolding input_line_fault input_of_line
one_input q m n k (sound i) good e = refl
one_input q m n k (faulty f) good e = absurd (omega (arith, good.0))

-- the first fault of the lines
none_refused : (b : Bool) (f l : ℕ) (rest : Refusal) → eqb f 0 ≡ b → (cond b rest (refusal f l)).number ≡ 0 → (f ≡ 0) × (rest.number ≡ 0)
unfolding refusal
none_refused true f l rest test e = (eqb-true f 0 test, e)
none_refused false f l rest test e = absurd (eqb-false f 0 test e)

-- lines of no fault are size + count rows
inputs_counted : (q : ℕ) (m : Memory) (n t k : ℕ) (xs : List InputLine) → k ≤ n + t → All GoodLine xs → (inputs_fault q m n t k xs).number ≡ 0
    → k + length (inputs_of_lines xs) ≡ n + t
unfolding inputs_fault inputs_of_lines refusal
inputs_counted q m n t k [] low good e = go (ltb k (n + t)) refl e
  where
    go : (b : Bool) → ltb k (n + t) ≡ b → (cond b (refusal 7 (k + 4)) (refusal 0 0)).number ≡ 0 → k + 0 ≡ n + t
    go true test wrong = absurd (omega (arith, wrong))
    go false test fine = omega (arith, ltb-false k (n + t) test)
inputs_counted q m n t k (x ∷ xs) low good e =
    let first = none_refused _ (cond (ltb k (n + t)) (input_line_fault q m n k x) 7) (k + 4) (inputs_fault q m n t (suc k) xs) refl e in
    let here = chosen_zero (ltb k (n + t)) (input_line_fault q m n k x) 7 (omega arith) first.0 in
    let below : suc k ≤ n + t = ltb-true k (n + t) here.0 in
    omega (
      arith,
      length-append (input_of_line x) (inputs_of_lines xs),
      one_input q m n k x good.0 here.1,
      inputs_counted q m n t (suc k) xs below good.1 first.1,
    )

-- What is printed of rows, of lines and of the whole input.
record Run (q : ℕ) (m : Memory) (n t : ℕ) (rows : List Input) (text : List ℕ) : Type 0 where
  fillable : Fillable q m n t (take n rows) (drop n rows)
  filled : text ≡ filled_text (filled_rows m t (take n rows) (drop n rows))

record Refused (text : List ℕ) : Type 0 where
  number : ℕ
  line : ℕ
  fault : FillNumber number
  printed : text ≡ refusal_text number line

-- a refusal where a test on its number fails: by a line,
refused_by : (f l : ℕ) → f ≤ 7 → eqb f 0 ≡ false → Refused (refusal_text f l)
refused_by f l small test = record { number = f; line = l; fault = inl (positive f (eqb-false f 0 test), small); printed = refl }
  where
    positive : (k : ℕ) → (k ≡ 0 → ⊥) → 1 ≤ k
    positive k h = omega arith

-- or after all lines
refused_late : (f l : ℕ) → late f ≡ true → eqb f 0 ≡ false → Refused (refusal_text f l)
unfolding late
refused_late f l after test =
    let bounds = both_pass (leb 11 f) (leb f 13) (rw test at after) in
    record { number = f; line = l; fault = inr (leb-true 11 f bounds.0, leb-true f 13 bounds.1); printed = refl }

-- the fault of a line is at most 7
small_either : (b : Bool) (x y : ℕ) → x ≤ 7 → y ≤ 7 → cond b x y ≤ 7
small_either b x y hx hy = decided (λ (k : ℕ). k ≤ 7) b (λ e. hx) hy

small_names : (names : List ℕ) (line : Line) → names_fault names line ≤ 7
unfolding names_fault
small_names names line = small_either (same line.text names) _ 1 (small_either line.ended 0 2 (omega arith) (omega arith)) (omega arith)

small_input : (q : ℕ) (m : Memory) (ops : List Op) (i : Input) → input_fault q m ops i ≤ 7
unfolding input_fault
small_input q m ops i =
    small_either (all_below q (i.guard ∷ i.addr ∷ number_of i.value ∷ [])) _ 3
    (small_either (op_in i.op ops) _ 5 (small_either (formed m (bare i)) 0 6 (omega arith) (omega arith)) (omega arith))
    (omega arith)

small_line : (q : ℕ) (m : Memory) (n k : ℕ) (x : InputLine) → GoodLine x → input_line_fault q m n k x ≤ 7
unfolding input_line_fault
small_line q m n k (sound i) good = small_input q m (ops_due m (cond (ltb k n) Starting Operating)) i
small_line q m n k (faulty f) good = good.1

small_first : (b : Bool) (f l : ℕ) (rest : Refusal) → f ≤ 7 → rest.number ≤ 7 → (cond b rest (refusal f l)).number ≤ 7
unfolding refusal
small_first true f l rest hf hr = hr
small_first false f l rest hf hr = hf

small_inputs : (q : ℕ) (m : Memory) (n t k : ℕ) (xs : List InputLine) → All GoodLine xs → (inputs_fault q m n t k xs).number ≤ 7
unfolding inputs_fault
small_inputs q m n t k [] good = small_first (ltb k (n + t)) 0 0 (refusal 7 (k + 4)) (omega arith) (unfold refusal in omega arith)
small_inputs q m n t k (x ∷ xs) good =
    small_first (eqb (cond (ltb k (n + t)) (input_line_fault q m n k x) 7) 0) _ (k + 4) (inputs_fault q m n t (suc k) xs)
    (small_either (ltb k (n + t)) _ 7 (small_line q m n k x good.0) (omega arith)) (small_inputs q m n t (suc k) xs good.1)

module _ (q : ℕ) where
  run_printed : (m : Memory) (n t : ℕ) (rows : List Input) → allowed m n t ≡ true → length rows ≡ n + t
      → late (rows_fault q m (map (λ i. i.value) (take n rows)) 1 (take n rows) (drop n rows)).number ≡ true
      → Refused (run_text q m n t rows) ⊎ Run q m n t rows (run_text q m n t rows)
  unfolding run_text
  run_printed m n t rows fit long after = go (eqb f.number 0) refl
    where
      f : Placed
      f = rows_fault q m (map (λ i. i.value) (take n rows)) 1 (take n rows) (drop n rows)

      honest : List ℕ
      honest = filled_text (filled_rows m t (take n rows) (drop n rows))

      go : (b : Bool) → eqb f.number 0 ≡ b
          → Refused (cond b honest (refusal_text f.number (f.place + 3))) ⊎ Run q m n t rows (cond b honest (refusal_text f.number (f.place + 3)))
      go true test =
          inr (record {
            fillable = record {
              fit = fit;
              size = length-take-le n rows (omega arith);
              count = omega (arith, length-drop n rows, long);
              unrefused = eqb-true f.number 0 test;
            };
            filled = refl;
          })
      go false test = inl (refused_late f.number (f.place + 3) after test)

  inputs_printed : (m : Memory) (n t : ℕ) (lines : List Line) → allowed m n t ≡ true
      → Refused (inputs_text q m n t (map (parse_input q) lines)) ⊎ Run q m n t (inputs_of_lines (map (parse_input q) lines)) (inputs_text q m n t (map (parse_input q) lines))
  unfolding inputs_text
  inputs_printed m n t lines fit = go (eqb f.number 0) refl
    where
      xs : List InputLine
      xs = map (parse_input q) lines

      f : Refusal
      f = inputs_fault q m n t 0 xs

      go : (b : Bool) → eqb f.number 0 ≡ b
          → Refused (cond b (run_text q m n t (inputs_of_lines xs)) (refusal_text f.number f.line))
          ⊎ Run q m n t (inputs_of_lines xs) (cond b (run_text q m n t (inputs_of_lines xs)) (refusal_text f.number f.line))
      go true test =
          run_printed m n t (inputs_of_lines xs) fit
          (omega (arith, inputs_counted q m n t 0 xs (omega arith) (good_lines q lines) (eqb-true f.number 0 test)))
          (tested_rows_late q m n t lines (eqb-true f.number 0 test))
      go false test = inl (refused_by f.number f.line (small_inputs q m n t 0 xs (good_lines q lines)) test)

  -- of the lines: a value line that asks for a memory, size and count, and the rows from line 4 on
  record Printed (lines : List Line) (text : List ℕ) : Type 0 where
    memory : Memory
    size : ℕ
    count : ℕ
    asked : parse_job q (get_or lines 1 (record { text = []; ended = false })) ≡ job memory size count
    run : Run q memory size count (inputs_of_lines (map (parse_input q) (drop 3 lines))) text

  rows_printed : (m : Memory) (n t : ℕ) (first value names : Line) (lines : List Line) → parse_job q value ≡ job m n t → allowed m n t ≡ true
      → Refused (job_text q (job m n t) (names ∷ lines)) ⊎ Printed (first ∷ value ∷ names ∷ lines) (job_text q (job m n t) (names ∷ lines))
  unfolding job_text
  rows_printed m n t first value names lines asked fit = go (eqb (names_fault input_names names) 0) refl
    where
      text : List ℕ
      text = inputs_text q m n t (map (parse_input q) lines)

      fault : List ℕ
      fault = refusal_text (names_fault input_names names) 3

      go : (b : Bool) → eqb (names_fault input_names names) 0 ≡ b → Refused (cond b text fault) ⊎ Printed (first ∷ value ∷ names ∷ lines) (cond b text fault)
      go true test =
          elim (inputs_printed m n t lines fit) [
            | inl r ↦ inl r
            | inr w ↦ inr (record { memory = m; size = n; count = t; asked = asked; run = w })
          ]
      go false test = inl (refused_by (names_fault input_names names) 3 (small_names input_names names) test)

  job_printed : (first value : Line) (j : Job) (lines : List Line) → parse_job q value ≡ j → GoodJob j
      → Refused (job_text q j lines) ⊎ Printed (first ∷ value ∷ lines) (job_text q j lines)
  job_printed first value (no_job f) lines asked good = inl (record { number = f; line = 2; fault = inl good; printed = unfold job_text in refl })
  job_printed first value (job m n t) [] asked good = inl (record { number = 7; line = 3; fault = inl (omega arith, omega arith); printed = unfold job_text in refl })
  job_printed first value (job m n t) (names ∷ lines) asked good = rows_printed m n t first value names lines asked good

  opened_printed : (first : Line) (lines : List Line) → Refused (job_lines_text q lines) ⊎ Printed (first ∷ lines) (job_lines_text q lines)
  unfolding job_lines_text
  opened_printed first [] = inl (record { number = 7; line = 2; fault = inl (omega arith, omega arith); printed = refl })
  opened_printed first (value ∷ lines) = job_printed first value (parse_job q value) lines refl (good_job q value)

  lines_printed : (lines : List Line) → Refused (fill_lines_text q lines) ⊎ Printed lines (fill_lines_text q lines)
  unfolding fill_lines_text
  lines_printed [] = inl (record { number = 1; line = 1; fault = inl (omega arith, omega arith); printed = refl })
  lines_printed (first ∷ lines) = go (eqb (names_fault fill_names first) 0) refl
    where
      fault : List ℕ
      fault = refusal_text (names_fault fill_names first) 1

      go : (b : Bool) → eqb (names_fault fill_names first) 0 ≡ b
          → Refused (cond b (job_lines_text q lines) fault) ⊎ Printed (first ∷ lines) (cond b (job_lines_text q lines) fault)
      go true test = opened_printed first lines
      go false test = inl (refused_by (names_fault fill_names first) 1 (small_names fill_names first) test)

-- What the filling program prints is a refusal, or is accepted behind its header at every challenge.
pub filling_accepted : FillingAccepted
unfolding fill_text
filling_accepted k written bytes =
    elim (lines_printed q (lines_of bytes)) [
      | inl r ↦ inl (record { number = r.number; line = r.line; fault = r.fault; printed = r.printed })
      | inr w ↦ inr (accepted_print w)
    ]
  where
    q : ℕ
    q = modulus_of k

    accepted_print : Printed q (lines_of bytes) (fill_lines_text q (lines_of bytes)) → FillAccepted q bytes
    accepted_print w =
        let rows = inputs_of_lines (map (parse_input q) (drop 3 (lines_of bytes))) in
        let inits = take w.size rows in
        let ops = drop w.size rows in
        record {
          memory = w.memory;
          size = w.size;
          count = w.count;
          inits = inits;
          ops = ops;
          asked = w.asked;
          given = sym (take-append-drop w.size rows);
          fillable = w.run.fillable;
          printed = w.run.filled;
          accepted =
              λ ch elements. ap (λ (text : List ℕ). file_report q (header_text w.memory w.size w.count ch ++ text)) w.run.filled
              ∙ honest_file_accepted k written w.memory w.size w.count inits ops ch w.run.fillable elements;
        }

pub filling_at_p : FillingAtP
unfolding modulus_of
filling_at_p = filling_accepted M31 written_p
