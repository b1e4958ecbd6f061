-- What is shown of the definitions. proofs/ has a proof of each, under the name that the comment gives.
-- Assumes nothing.
use Rattle.std.specs.Prelude.{ℕ, ◌+◌, ◌-◌, ◌≤◌, ◌≡◌, ◌↔◌, ◌⊎◌, true, false, ◌&&◌, List, [], ◌∷◌, leb, length}
use Rattle.memory.specs.declared.Memory.{Memory}
use Rattle.memory.specs.declared.Op.TheVariants.{Push, Pop, Enqueue, Dequeue}
use Rattle.memory.specs.declared.Row.{Row}
use Rattle.memory.specs.Faults.{Parsed}
use Rattle.std.specs.Prelude.{Ok}
use Rattle.memory.specs.declared.Challenge.{Challenge}
use Rattle.memory.specs.declared.State.{State}
use Rattle.memory.specs.declared.Report.{Report}
use Rattle.memory.specs.declared.Lent.{Lent}
use Rattle.field.specs.Moduli.{modulus_of}
use Rattle.memory.specs.Content.{Content, same_content}
use Rattle.memory.specs.Bytes.{Line, lines_of}
use Rattle.memory.specs.Names.{value_names, row_names}
use Rattle.memory.specs.Rows.{allowed, raised, lowered, ranges_due, formed, row_below, line_fault}
use Rattle.memory.specs.Equations.{file_lists, range_balances, memory_balances}
use Rattle.memory.specs.Gates.{inputs_of, mults_of, factors_of, choices_of, hashes_of, depths_of, guarded, skipped_with, rows_with, inputs_formula, mults_formula, puts, takes}
use Rattle.memory.specs.File.{refused, first_fault, rows_of, parse_rows, values_fault, values_report, opens, parse_values, file_report}
use Rattle.memory.specs.Step.{takes_rows, step_of, end_of, steps_of, run_of, fresh_of, report_of, answer_of, lent_steps, lent_end, lent_report, lent_answer}
use Rattle.memory.specs.Print.{report_text}
use Rattle.memory.specs.Pieces.{bytes_in}
use Rattle.memory.specs.Stream.{line_of, unread, finish_of}
use Rattle.memory.specs.Bound.{elements, accepts, malformed}

-- The laws of the equality of contents: contents that pass the test are equal, (Content:
-- same_content_lem)
abbrev pub SameContent : Type 0
SameContent = (x y : Content) → same_content x y ≡ true → x ≡ y

-- and equal contents pass it. (Content: content_same)
abbrev pub ContentSame : Type 0
ContentSame = (x y : Content) → x ≡ y → same_content x y ≡ true

-- "Rows then come one call at a time, refused ones included, and last the end of file": the value line's fresh state, advanced by any list of parsed rows, also
-- of such as no line reads as, and then ended, answers what the whole-file definition says: answer, line, inputs, multiplications. (Fold: fold_is_file)
abbrev pub FoldIsFile : Type 0
FoldIsFile =
    (q : ℕ) (m : Memory) (n t : ℕ) (ch : Challenge) (xs : List Parsed) → 2 ≤ q
    → report_of (end_of (steps_of q (fresh_of q m n t ch) xs)) ≡ values_report q m n t ch xs

-- Lines are an instance of parsed rows: each is read and handed on. So every statement on parsed
-- rows is one on lines, at `parse_rows q lines`. (Fold: run_is_steps)
abbrev pub RunIsSteps : Type 0
RunIsSteps = (q : ℕ) (s : State) (lines : List Line) → run_of q s lines ≡ steps_of q s (parse_rows q lines)

-- A state that is lent with its modulus: rows handed to it one call at a time, and the end of file,
-- come to what the steps at that modulus come to, and so do the answer and what is printed; the
-- modulus stays.
pub record LentRun (l : Lent) (xs : List Parsed) : Type 0 where
  pub modulus : (lent_end (lent_steps l xs)).field ≡ l.field
  pub rows : (lent_steps l xs).state ≡ steps_of (modulus_of l.field) l.state xs
  pub answer : lent_answer (lent_steps l xs) ≡ answer_of (steps_of (modulus_of l.field) l.state xs)
  pub printed : lent_report (lent_steps l xs) ≡ report_of (steps_of (modulus_of l.field) l.state xs)
  pub report : lent_report (lent_end (lent_steps l xs)) ≡ report_of (end_of (steps_of (modulus_of l.field) l.state xs))

-- (Fold: lent_is_steps)
abbrev pub LentIsSteps : Type 0
LentIsSteps = (l : Lent) (xs : List Parsed) → LentRun l xs

-- FoldIsFile at lines. (Fold: run_is_file)
abbrev pub RunIsFile : Type 0
RunIsFile =
    (q : ℕ) (m : Memory) (n t : ℕ) (ch : Challenge) (lines : List Line) → 2 ≤ q
    → report_of (end_of (run_of q (fresh_of q m n t ch) lines)) ≡ values_report q m n t ch (parse_rows q lines)

-- "a false restatement is not refused on sight", "An access outside a ram or rom is not refused on sight": of rows that have their form and whose numbers are
-- elements, op and guard alone decide a line's fault. (Sight: fault_by_form)
abbrev pub FaultByForm : Type 0
FaultByForm =
    (q : ℕ) (m : Memory) (n t : ℕ) (rows : List Row) (x y : Row) → x.op ≡ y.op → x.guard ≡ y.guard
    → (row_below q x ≡ true) × (formed m x ≡ true) → (row_below q y ≡ true) × (formed m y ≡ true)
    → line_fault q m n t rows (Ok x) ≡ line_fault q m n t rows (Ok y)

-- "After a refusal or the end of file a state is fixed": rows and ends leave it as it is. (Fold: fixed_state)
abbrev pub FixedState : Type 0
FixedState =
    (q : ℕ) (s : State) → takes_rows s.context ≡ false → ((x : Parsed) → step_of q s x ≡ s) × (end_of s ≡ s)

-- A state after the end of file takes no rows. (Fold: ended_state)
abbrev pub EndedState : Type 0
EndedState = (s : State) → takes_rows (end_of s).context ≡ false

-- What a row on a lent state answers, of the state that it leaves
pub record RowAnswer (q : ℕ) (s : State) : Type 0 where
  -- a row that is taken: 0 and 0, without gates
  pub taken : takes_rows s.context ≡ true → answer_of s ≡ refused 0 0
  -- the number of the refusal so far, which is 0 where there is none: so a taken row is told from
  -- every refusal
  pub number : (answer_of s).answer ≡ s.context.answer
  -- "further rows return the same answer and line", which are those that are printed
  pub further : takes_rows s.context ≡ false → (x : Parsed) → answer_of (step_of q s x) ≡ report_of s

-- (Fold: row_answered)
abbrev pub RowAnswered : Type 0
RowAnswered = (q : ℕ) (s : State) → RowAnswer q s

-- "no later row alters that": after a row that is refused, any rows and the end of file leave its
-- answer and line. (Fold: refusal_stays)
abbrev pub RefusalStays : Type 0
RefusalStays =
    (q : ℕ) (s : State) (x : Parsed) (xs : List Parsed) → takes_rows (step_of q s x).context ≡ false
    → report_of (end_of (steps_of q (step_of q s x) xs)) ≡ report_of (step_of q s x)

-- Demand 2: the answer is 0 exactly when the rows are complete and well-formed, there is no 8, and
-- the equations hold; of every list of parsed rows. (Fold: accepts_exactly_when)
pub record Holds (q : ℕ) (m : Memory) (n t : ℕ) (ch : Challenge) (xs : List Parsed) : Type 0 where
  pub values : values_fault q m n t ch ≡ 0
  pub rows : (first_fault q m n t [] xs).number ≡ 0
  pub range : range_balances q ch (file_lists q m n t (rows_of xs)) ≡ true
  pub memory : memory_balances q ch (file_lists q m n t (rows_of xs)) ≡ true

abbrev pub AcceptsExactlyWhen : Type 0
AcceptsExactlyWhen =
    (q : ℕ) (m : Memory) (n t : ℕ) (ch : Challenge) (xs : List Parsed) → 2 ≤ q
    → (accepts q m n t xs ch ≡ true) ↔ Holds q m n t ch xs

-- A file's head is right and the equations hold: its first lines are the names line, a value line
-- and the names line of the rows, both names lines byte for byte and with their line feeds; the
-- value line reads as a memory, its size and count and a challenge; and of these Holds is true of
-- the lines from line 4 on
pub record FileHolds (q : ℕ) (bytes : List ℕ) : Type 0 where
  pub memory : Memory
  pub size : ℕ
  pub count : ℕ
  pub challenge : Challenge
  pub values : Line
  pub rows : List Line
  pub head : lines_of bytes ≡ record { text = value_names; ended = true } ∷ values ∷ record { text = row_names; ended = true } ∷ rows
  pub opened : parse_values q values ≡ opens memory size count challenge
  pub holds : Holds q memory size count challenge (parse_rows q rows)

-- Demand 2, of a whole file: it is answered 0 exactly when its head is right and the equations
-- hold. (WholeFile: file_accepted)
abbrev pub FileAccepted : Type 0
FileAccepted = (q : ℕ) (bytes : List ℕ) → ((file_report q bytes).answer ≡ 0) ↔ FileHolds q bytes

-- "Incomplete or malformed is what meets one of 1 to 7.": malformed is exactly what is answered by
-- one of 1 to 7, at any challenge. (Answered: malformed_answered)
abbrev pub MalformedAnswered : Type 0
MalformedAnswered =
    (q : ℕ) (m : Memory) (n t : ℕ) (ch : Challenge) (xs : List Parsed) → 2 ≤ q → elements q ch ≡ true
    → let answer = (report_of (end_of (steps_of q (fresh_of q m n t ch) xs))).answer in
    malformed q m n t xs ≡ (leb 1 answer && leb answer 7)

-- What is not malformed is accepted, or refused by 8, 9 or 10. (Answered: well_formed_answered)
abbrev pub WellFormedAnswered : Type 0
WellFormedAnswered =
    (q : ℕ) (m : Memory) (n t : ℕ) (ch : Challenge) (xs : List Parsed) → 2 ≤ q → elements q ch ≡ true → malformed q m n t xs ≡ false
    → let answer = (report_of (end_of (steps_of q (fresh_of q m n t ch) xs))).answer in
    (answer ≡ 0) ⊎ ((8 ≤ answer) × (answer ≤ 10))

-- Gates: of complete and well-formed rows the counts are the formulas of document 01's table. (Gates: gates_by_formula)
abbrev pub GatesByFormula : Type 0
GatesByFormula =
    (q : ℕ) (m : Memory) (n t : ℕ) (xs : List Parsed) → allowed m n t ≡ true → (first_fault q m n t [] xs).number ≡ 0
    → let rows = rows_of xs in
    (inputs_of m rows ≡ inputs_formula m n t (puts rows) (takes rows) (raised rows - lowered rows))
    × (mults_of m rows ≡ mults_formula m n t (puts rows) (takes rows) (raised rows - lowered rows))

-- "Every factor costs one multiplication, except the range's public setup, which is free": of complete and well-formed rows the factors that are counted, and the
-- setup's, are the records of the equations' lists, and a factor 1 for each push or pop that its guard skips. (Factors: factors_counted)
abbrev pub FactorsCounted : Type 0
FactorsCounted =
    (q : ℕ) (m : Memory) (n t : ℕ) (xs : List Parsed) → allowed m n t ≡ true → (first_fault q m n t [] xs).number ≡ 0
    → let rows = rows_of xs in
    let l = file_lists q m n t rows in
    factors_of m rows + ranges_due m t
    ≡ length l.written + length l.read + (length l.supplied + length l.looked) + (skipped_with Push rows + skipped_with Pop rows)

-- "So does … each hash step": the hash steps that are counted are the elements of the equations' hashes, and a step for each enqueue or dequeue that its guard
-- skips. (Factors: hashes_counted)
abbrev pub HashesCounted : Type 0
HashesCounted =
    (q : ℕ) (m : Memory) (n t : ℕ) (xs : List Parsed) → (first_fault q m n t [] xs).number ≡ 0
    → let rows = rows_of xs in
    let l = file_lists q m n t rows in
    hashes_of m rows ≡ length l.enqueued + length l.dequeued + (skipped_with Enqueue rows + skipped_with Dequeue rows)

-- "So does each choice by a guard": one for each row that uses the guard column. (Factors: choices_counted)
abbrev pub ChoicesCounted : Type 0
ChoicesCounted = (m : Memory) (rows : List Row) → choices_of m rows ≡ guarded m rows

-- "So does … each depth step": one for each dequeue, since "Each dequeue multiplies a product". (Factors: depths_counted)
abbrev pub DepthsCounted : Type 0
DepthsCounted = (m : Memory) (rows : List Row) → depths_of m rows ≡ rows_with Dequeue rows

-- The multiplications that are counted and printed are those for factors, choices, hash steps and
-- depth steps. (Factors: mults_counted)
abbrev pub MultsCounted : Type 0
MultsCounted = (m : Memory) (rows : List Row) → mults_of m rows ≡ factors_of m rows + choices_of m rows + hashes_of m rows + depths_of m rows

-- "It prints two lines": they have at most 109 bytes, a names line of 25, and four numbers of at most 20 digits with a comma or the line feed after each.
-- (ReportLength: report_short)
abbrev pub ReportShort : Type 0
ReportShort = (r : Report) → length (report_text r) ≤ 109

-- A file read byte by byte, up to its end, gives what `check` prints for it. (Stream: stream_is_file)
abbrev pub StreamIsFile : Type 0
StreamIsFile = (q : ℕ) (bytes : List ℕ) → 2 ≤ q → finish_of q (bytes_in (line_of q) unread bytes) ≡ file_report q bytes
