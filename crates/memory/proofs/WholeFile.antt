-- A whole file is answered 0 exactly when its head is right and the equations hold.
-- Assumes nothing.
use Prim.Native.Nat.{ℕ}
use native.Mathlib.Omega.{arith}
use mathlib.Core.Path.{◌≡◌, refl, sym, ◌∙◌, ap, ap₂}
use mathlib.Core.Bool.{Bool, true, cond, false≢true}
use mathlib.Core.List.{List, [], ◌∷◌}
use lib.Dec.{eqb}
use borrow.Author.Tests.{eqb-true}
use Rattle.memory.specs.declared.Memory.{Memory}
use Rattle.memory.specs.declared.Challenge.{Challenge}
use Rattle.memory.specs.Bytes.{Line, same, lines_of}
use Rattle.memory.specs.Names.{value_names, row_names}
use Rattle.memory.specs.File.{parse_rows, refused, values_fault, values_report, Opening, opens, shut, parse_values, names_fault, names_report, opening_report, lines_report, file_report}
use Rattle.memory.specs.Statements.{Holds, FileHolds, FileAccepted}
use Rattle.memory.proofs.Same.{same_eq, same_refl}
use Rattle.memory.proofs.ReadRows.{chosen_zero}
use Rattle.memory.proofs.Fold.{zero_of_refused, holds_of_answer, answer_of_holds}
use Rattle.memory.proofs.Stream.{Shuts, values_shut}

-- a names line with its line feed
unfoldable pub whole : List ℕ → Line
whole names = record { text = names; ended = true }

-- it is the one line without a fault
names_whole : (names : List ℕ) (line : Line) → names_fault names line ≡ 0 → line ≡ whole names
unfolding names_fault whole
names_whole names line e =
    let text = chosen_zero (same line.text names) (cond line.ended 0 2) 1 (omega arith) e in
    let end = chosen_zero line.ended 0 2 (omega arith) text.1 in
    ap₂ (λ (bs : List ℕ) (b : Bool). record { text = bs; ended = b }) (same_eq line.text names text.0) end.0

pub whole_names : (names : List ℕ) → names_fault names (whole names) ≡ 0
unfolding names_fault whole
whole_names names = rw (same_refl names)

-- What the lines of an accepted file are: from line 3 on,
record NamesHold (q : ℕ) (x : Opening) (lines : List Line) : Type 0 where
  memory : Memory
  size : ℕ
  count : ℕ
  challenge : Challenge
  rows : List Line
  head : lines ≡ whole row_names ∷ rows
  opened : x ≡ opens memory size count challenge
  holds : Holds q memory size count challenge (parse_rows q rows)

names_hold : (q : ℕ) (x : Opening) → Shuts x → (lines : List Line) → eqb (names_report q x lines).answer 0 ≡ true → NamesHold q x lines
unfolding names_report refused
names_hold q (shut f) shuts lines e = absurd (false≢true (sym shuts ∙ e))
names_hold q (opens m n t ch) shuts [] e =
    absurd (false≢true (zero_of_refused (values_fault q m n t ch) 2 (refused 7 3) e).1)
names_hold q (opens m n t ch) shuts (line ∷ lines) e =
    let r = values_report q m n t ch (parse_rows q lines) in
    let f = names_fault row_names line in
    let values = zero_of_refused (values_fault q m n t ch) 2 (cond (eqb f 0) r (refused f 3)) e in
    let names = zero_of_refused f 3 r values.1 in
    record {
      memory = m;
      size = n;
      count = t;
      challenge = ch;
      rows = lines;
      head = ap {B = List Line} (λ (l : Line). l ∷ lines) (names_whole row_names line names.0);
      opened = refl;
      holds = holds_of_answer q m n t ch (parse_rows q lines) names.1;
    }

-- and from line 1 on
record LinesHold (q : ℕ) (lines : List Line) : Type 0 where
  values : Line
  rest : List Line
  head : lines ≡ whole value_names ∷ values ∷ rest
  names : NamesHold q (parse_values q values) rest

lines_hold : (q : ℕ) (lines : List Line) → eqb (lines_report q lines).answer 0 ≡ true → LinesHold q lines
unfolding lines_report opening_report refused
lines_hold q [] e = absurd (false≢true e)
lines_hold q (line ∷ []) e = absurd (false≢true (zero_of_refused (names_fault value_names line) 1 (refused 7 2) e).1)
lines_hold q (line ∷ values ∷ rest) e =
    let first = zero_of_refused (names_fault value_names line) 1 (names_report q (parse_values q values) rest) e in
    record {
      values = values;
      rest = rest;
      head = ap {B = List Line} (λ (l : Line). l ∷ values ∷ rest) (names_whole value_names line first.0);
      names = names_hold q (parse_values q values) (values_shut q values) rest first.1;
    }

file_holds : (q : ℕ) (bytes : List ℕ) → LinesHold q (lines_of bytes) → FileHolds q bytes
unfolding whole
file_holds q bytes h = record {
  memory = h.names.memory;
  size = h.names.size;
  count = h.names.count;
  challenge = h.names.challenge;
  values = h.values;
  rows = h.names.rows;
  head = h.head ∙ ap {B = List Line} (λ (l : List Line). whole value_names ∷ h.values ∷ l) h.names.head;
  opened = h.names.opened;
  holds = h.names.holds;
}

-- such lines are answered 0
rows_zero : (q : ℕ) (m : Memory) (n t : ℕ) (ch : Challenge) (rows : List Line) → Holds q m n t ch (parse_rows q rows)
    → (names_report q (opens m n t ch) (whole row_names ∷ rows)).answer ≡ 0
unfolding names_report refused
rows_zero q m n t ch rows h =
    rw (h.values, whole_names row_names) (eqb-true _ 0 (answer_of_holds q m n t ch (parse_rows q rows) h))

lines_zero : (q : ℕ) (m : Memory) (n t : ℕ) (ch : Challenge) (values : Line) (rows : List Line) → parse_values q values ≡ opens m n t ch
    → Holds q m n t ch (parse_rows q rows)
    → (lines_report q (whole value_names ∷ values ∷ whole row_names ∷ rows)).answer ≡ 0
unfolding lines_report opening_report refused
lines_zero q m n t ch values rows opened h = rw (whole_names value_names, opened) (rows_zero q m n t ch rows h)

pub file_accepted : FileAccepted
unfolding file_report whole
file_accepted q bytes = (
  λ e. file_holds q bytes (lines_hold q (lines_of bytes) (ap (λ (a : ℕ). eqb a 0) e)),
  λ h. ap (λ (ls : List Line). (lines_report q ls).answer) h.head
      ∙ lines_zero q h.memory h.size h.count h.challenge h.values h.rows h.opened h.holds,
)
