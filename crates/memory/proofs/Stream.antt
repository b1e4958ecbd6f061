-- A checked file read in pieces: what is printed at the end of input is what the whole-file definition says.
-- Assumes nothing.
use Prim.Native.Nat.{ℕ, ◌+◌, ◌≤◌}
use mathlib.Core.Path.{◌≡◌, refl, sym, ◌∙◌, ap}
use mathlib.Core.Bool.{Bool, true, false, cond}
use Rattle.std.specs.Prelude.{Option, None, Some}
use mathlib.Core.List.{List, [], ◌∷◌}
use lib.Dec.{eqb, lit≤}
use lib.ListN.{get_or, length}
use Rattle.memory.specs.declared.Memory.{Memory}
use Rattle.std.specs.Prelude.{Err}
use Rattle.memory.specs.declared.Challenge.{Challenge}
use Rattle.memory.specs.declared.Report.{Report}
use Rattle.memory.specs.declared.Stand.{Stand}
use Rattle.memory.specs.declared.State.{State}
use Rattle.memory.specs.Text.{bytes}
use Rattle.memory.specs.Bytes.{Line, longest, lines_of}
use Rattle.memory.specs.Names.{value_names, row_names, memory_named}
use Rattle.memory.specs.Rows.{allowed, row_fields, row_read, parse_row}
use Rattle.memory.specs.File.{Opening, opens, shut, refused, parse_rows, values_fault, values_report, value_fields, opened_by, values_read, parse_values, names_fault, names_report, opening_report, lines_report, file_report}
use Rattle.memory.specs.Step.{takes_rows, refuse_at, row_of, run_of, report_of, fresh_context, fresh_of, refused_state, opened_of}
use Rattle.memory.specs.Pieces.{cut}
use Rattle.memory.specs.Stream.{stand, names_read, row_names_read, line_of, end_report, unopened, unread, finish_of}
use Rattle.memory.specs.Statements.{StreamIsFile}
use Rattle.memory.proofs.ReadFields.{read_fields, long_fields}
use Rattle.memory.proofs.Fold.{run_is_file, fixed_state}
use Rattle.memory.proofs.Pieces.{line_with, cut_reads, cut_names, lines_in, pieces_are_lines}

-- both names lines fit
value_names_fit : length value_names ≤ longest
unfolding value_names bytes longest
value_names_fit = lit≤ tt

row_names_fit : length row_names ≤ longest
unfolding row_names bytes longest
row_names_fit = lit≤ tt

-- a row line and a value line of more than 80 bytes are 2, whatever their bytes
cut_row : (q : ℕ) (text : List ℕ) (ended : Bool) → parse_row q (line_with (cut text) ended) ≡ parse_row q (line_with text ended)
unfolding parse_row row_read
cut_row q text ended = cut_reads (parse_row q) (Err 2) (λ t e long. ap row_read (long_fields q row_fields (line_with t e) long)) text ended

cut_values : (q : ℕ) (text : List ℕ) (ended : Bool) → parse_values q (line_with (cut text) ended) ≡ parse_values q (line_with text ended)
unfolding parse_values values_read
cut_values q text ended = cut_reads (parse_values q) (shut 2) (λ t e long. ap values_read (long_fields q value_fields (line_with t e) long)) text ended

-- a line is read from what is kept of it
pub cut_line : (q : ℕ) (v : Stand) (text : List ℕ) (ended : Bool) → line_of q v (line_with (cut text) ended) ≡ line_of q v (line_with text ended)
unfolding line_of row_names_read row_of
cut_line q v text ended = simp (cut_row, cut_values, cut_names value_names value_names_fit, cut_names row_names row_names_fit)

-- From line 4 on the lines are rows
rows_read : (q : ℕ) (s : State) (lines : List Line) → lines_in (line_of q) (stand 4 s) lines ≡ stand 4 (run_of q s lines)
unfolding lines_in run_of line_of stand
rows_read q s [] = refl
rows_read q s (line ∷ lines) = rows_read q (row_of q s line) lines

-- a state that takes no rows keeps its answer
run_fixed : (q : ℕ) (s : State) (lines : List Line) → takes_rows s.context ≡ false → run_of q s lines ≡ s
unfolding run_of row_of
run_fixed q s [] e = refl
run_fixed q s (line ∷ lines) e = rw ((fixed_state q s e).0 (parse_row q line)) (run_fixed q s lines e)

-- nor does what is printed of it change
report_fixed : (q : ℕ) (s : State) (lines : List Line) → takes_rows s.context ≡ false
    → end_report (lines_in (line_of q) (stand 4 s) lines) ≡ report_of s
unfolding end_report stand
report_fixed q s lines e = rw (rows_read q s lines) (rw (run_fixed q s lines e) (ap report_of (fixed_state q s e).1))

-- a file that is refused before its rows is printed so
refused_fixed : (f l : ℕ) → eqb f 0 ≡ false → takes_rows (refused_state f l).context ≡ false
unfolding takes_rows refused_state refuse_at fresh_context
refused_fixed f l e = e

pub refused_report : (f l : ℕ) → eqb f 0 ≡ false → report_of (refused_state f l) ≡ refused f l
unfolding report_of refused_state refuse_at fresh_context
refused_report f l e = rw e refl

-- a names line, and what is printed after it
names_report_lem : (q k : ℕ) (s : State) (f : ℕ) (lines : List Line) (a : Report) → end_report (lines_in (line_of q) (stand (k + 1) s) lines) ≡ a
    → end_report (lines_in (line_of q) (names_read k s f) lines) ≡ cond (eqb f 0) a (refused f k)
unfolding names_read
names_report_lem q k s f lines a h = go (eqb f 0) refl
  where
    go : (x : Bool) → eqb f 0 ≡ x → end_report (lines_in (line_of q) (cond x (stand (k + 1) s) (stand 4 (refused_state f k))) lines) ≡ cond x a (refused f k)
    go true e = h
    go false e = report_fixed q (refused_state f k) lines (refused_fixed f k e) ∙ refused_report f k e

-- a value line is shut by a fault
abbrev pub Shuts : Opening → Type 0
Shuts (opens m n t ch) = Unit
Shuts (shut f) = eqb f 0 ≡ false

-- a memory's name, and a whole value line
shuts_opened : (m : Option Memory) (ns : List ℕ) → Shuts (opened_by m ns)
unfolding opened_by
shuts_opened None ns = refl
shuts_opened (Some m) ns = by (allowed m (get_or ns 0 0) (get_or ns 1 0)) _ _ _ _
  where
    by : (fine : Bool) (m' : Memory) (n t : ℕ) (ch : Challenge) → Shuts (cond fine (opens m' n t ch) (shut 4))
    by true m' n t ch = tt
    by false m' n t ch = refl

pub values_shut : (q : ℕ) (line : Line) → Shuts (parse_values q line)
unfolding parse_values values_read
values_shut q line =
    read_fields (λ x. Shuts (values_read x)) q value_fields refl refl (λ name ns many below. shuts_opened (memory_named name) ns) line

-- a fresh state takes rows unless its values have a fault, and then it is printed so
fresh_takes : (q : ℕ) (m : Memory) (n t : ℕ) (ch : Challenge) → takes_rows (fresh_of q m n t ch).context ≡ eqb (values_fault q m n t ch) 0
unfolding takes_rows fresh_of fresh_context
fresh_takes q m n t ch = refl

fresh_report : (q : ℕ) (m : Memory) (n t : ℕ) (ch : Challenge) → eqb (values_fault q m n t ch) 0 ≡ false
    → report_of (fresh_of q m n t ch) ≡ refused (values_fault q m n t ch) 2
unfolding report_of fresh_of fresh_context
fresh_report q m n t ch e = rw e refl

-- line 3 after a state that takes rows, and after one that does not
row_names_taken : (q : ℕ) (s : State) (line : Line) → takes_rows s.context ≡ true → line_of q (stand 3 s) line ≡ names_read 3 s (names_fault row_names line)
unfolding line_of stand row_names_read
row_names_taken q s line e = rw e refl

row_names_passed : (q : ℕ) (s : State) (line : Line) → takes_rows s.context ≡ false → line_of q (stand 3 s) line ≡ stand 4 s
unfolding line_of stand row_names_read
row_names_passed q s line e = rw e refl

-- a file without line 3
no_row_names : (s : State) → end_report (stand 3 s) ≡ cond (takes_rows s.context) (refused 7 3) (report_of s)
unfolding end_report stand
no_row_names s = refl

-- the lines from line 3 on, after a state that takes no rows
row_names_fixed : (q : ℕ) (s : State) (lines : List Line) → takes_rows s.context ≡ false
    → end_report (lines_in (line_of q) (stand 3 s) lines) ≡ report_of s
unfolding lines_in
row_names_fixed q s [] e = no_row_names s ∙ rw e refl
row_names_fixed q s (line ∷ lines) e = rw (row_names_passed q s line e) (report_fixed q s lines e)

-- values with a fault are printed so, whatever lines follow
refused_names : (q : ℕ) (m : Memory) (n t : ℕ) (ch : Challenge) (lines : List Line) → eqb (values_fault q m n t ch) 0 ≡ false
    → names_report q (opens m n t ch) lines ≡ refused (values_fault q m n t ch) 2
unfolding names_report
refused_names q m n t ch [] e = rw e refl
refused_names q m n t ch (line ∷ lines) e = rw e refl

module _ (q : ℕ) (two : 2 ≤ q) where
  -- the lines from line 4 on, after a value line
  rows_report_lem : (m : Memory) (n t : ℕ) (ch : Challenge) (lines : List Line)
      → end_report (lines_in (line_of q) (stand 4 (fresh_of q m n t ch)) lines) ≡ values_report q m n t ch (parse_rows q lines)
  unfolding end_report stand
  rows_report_lem m n t ch lines = rw (rows_read q (fresh_of q m n t ch) lines) (run_is_file q m n t ch lines two)

  -- the lines from line 3 on, after values without a fault, and after any value line
  fresh_names_report : (m : Memory) (n t : ℕ) (ch : Challenge) (lines : List Line) → eqb (values_fault q m n t ch) 0 ≡ true
      → end_report (lines_in (line_of q) (stand 3 (fresh_of q m n t ch)) lines) ≡ names_report q (opens m n t ch) lines
  unfolding names_report lines_in
  fresh_names_report m n t ch [] e = no_row_names (fresh_of q m n t ch) ∙ rw (fresh_takes q m n t ch) (rw e refl)
  fresh_names_report m n t ch (line ∷ lines) e =
      rw (row_names_taken q (fresh_of q m n t ch) line (fresh_takes q m n t ch ∙ e))
      (rw e (names_report_lem q 3 (fresh_of q m n t ch) (names_fault row_names line) lines _ (rows_report_lem m n t ch lines)))

  row_names_report : (x : Opening) → Shuts x → (lines : List Line)
      → end_report (lines_in (line_of q) (stand 3 (opened_of q x)) lines) ≡ names_report q x lines
  unfolding opened_of names_report
  row_names_report (shut f) h lines = row_names_fixed q (refused_state f 2) lines (refused_fixed f 2 h) ∙ refused_report f 2 h
  row_names_report (opens m n t ch) h lines = go (eqb (values_fault q m n t ch) 0) refl
    where
      go : (b : Bool) → eqb (values_fault q m n t ch) 0 ≡ b
          → end_report (lines_in (line_of q) (stand 3 (fresh_of q m n t ch)) lines) ≡ names_report q (opens m n t ch) lines
      go true e = fresh_names_report m n t ch lines e
      go false e =
          row_names_fixed q (fresh_of q m n t ch) lines (fresh_takes q m n t ch ∙ e) ∙ fresh_report q m n t ch e
          ∙ sym (refused_names q m n t ch lines e)

  -- the lines from line 2 on
  values_report_lem : (s : State) (lines : List Line) → end_report (lines_in (line_of q) (stand 2 s) lines) ≡ opening_report q lines
  unfolding lines_in line_of end_report stand opening_report
  values_report_lem s [] = refl
  values_report_lem s (line ∷ lines) = row_names_report (parse_values q line) (values_shut q line) lines

  -- the lines of a file
  lines_report_lem : (lines : List Line) → end_report (lines_in (line_of q) unopened lines) ≡ lines_report q lines
  unfolding lines_in line_of end_report stand lines_report unopened
  lines_report_lem [] = refl
  lines_report_lem (line ∷ lines) =
      names_report_lem q 1 (refused_state 1 1) (names_fault value_names line) lines (opening_report q lines) (values_report_lem (refused_state 1 1) lines)

-- what is printed is what the whole-file definition says
pub stream_is_file : StreamIsFile
unfolding unread finish_of file_report
stream_is_file q bytes two =
    ap end_report (pieces_are_lines (line_of q) (cut_line q) unopened bytes) ∙ lines_report_lem q two (lines_of bytes)
