-- What is shown of whole files: demand 3, and that what the filler writes is accepted. proofs/ has a proof of each, under the name that the comment gives.
-- Assumes nothing.
use Rattle.std.specs.Prelude.{ℕ, ◌+◌, ◌-◌, ◌*◌, ◌^◌, ◌≤◌, ◌<◌, ◌≡◌, ◌⊎◌, true, false, List, [], ◌++◌, map, length, get_or, take, drop}
use Rattle.algebra.specs.Prime.{Prime}
use Rattle.field.specs.Field.{p, challenges_of}
use Rattle.field.specs.declared.moduli.Modulus.{Modulus}
use Rattle.field.specs.declared.moduli.Modulus.TheVariants.{M31, M61, Small}
use Rattle.field.specs.Moduli.{modulus_of, file_modulus}
use Rattle.memory.specs.declared.Memory.{Memory}
use Rattle.memory.specs.declared.Row.{Row}
use Rattle.memory.specs.Faults.{Parsed}
use Rattle.std.specs.Prelude.{Ok}
use Rattle.memory.specs.declared.Challenge.{Challenge}
use Rattle.memory.specs.declared.Report.{Report}
use Rattle.memory.specs.Bytes.{Line, most_digits, lines_of}
use Rattle.memory.specs.Rows.{allowed, raised, lowered, init_rows}
use Rattle.memory.specs.Gates.{inputs_formula, mults_formula, puts, takes}
use Rattle.memory.specs.File.{head_lines, first_fault, refusal, rows_of, file_report}
use Rattle.runs.specs.Plain.{right, trace_of}
use Rattle.runs.specs.Honest.{Input, init_inputs, operation_inputs, filled_rows, refilled_rows}
use Rattle.memory.specs.Step.{end_of, steps_of, fresh_of, report_of}
use Rattle.runs.specs.Filler.{rows_fault}
use Rattle.memory.specs.Print.{refusal_text, filled_text, header_text}
use Rattle.runs.specs.FillFile.{job, parse_job, parse_input, inputs_of_lines, inputs_fault, fill_text}
use Rattle.runs.specs.FillStream.{late}
use Rattle.memory.specs.Bound.{elements, accepts, challenges, malformed, degree}
use Rattle.runs.specs.Advised.{Advised}

-- Demand 3, for one list of parsed rows, also of such as no line reads as: where they are
-- incomplete or malformed, or meet 8, no challenge accepts them; else, where the trace is wrong, at
-- most 2·m·p³ of the p⁴ challenges do, whatever the advice; and where it is right and the advice is
-- the filler's, all p⁴ do
pub record Demand (q : ℕ) (m : Memory) (n t : ℕ) (xs : List Parsed) : Type 0 where
  pub incomplete : malformed q m n t xs ≡ true → (ch : Challenge) → accepts q m n t xs ch ≡ false
  -- 8: "the queue's depth product is 0, or the stack's depth is below 0"
  pub depth : (first_fault q m n t [] xs).number ≡ 8 → (ch : Challenge) → accepts q m n t xs ch ≡ false
  pub wrong :
      malformed q m n t xs ≡ false → right (trace_of m n t (rows_of xs)) ≡ false
      → challenges q (accepts q m n t xs) ≤ 2 * degree m n t (rows_of xs) * q ^ 3
  -- the same with half the bound
  pub sharp :
      malformed q m n t xs ≡ false → right (trace_of m n t (rows_of xs)) ≡ false
      → challenges q (accepts q m n t xs) ≤ degree m n t (rows_of xs) * q ^ 3
  pub honest :
      malformed q m n t xs ≡ false → right (trace_of m n t (rows_of xs)) ≡ true → Advised q m n t (rows_of xs)
      → (ch : Challenge) → elements q ch ≡ true → accepts q m n t xs ch ≡ true

-- The moduli of a file: document 01's p, and the larger field's. A small number is none of them,
-- and from 2 on stands for itself. (Demand: file_moduli)
abbrev pub FileModuli : Type 0
FileModuli =
    ((file_modulus M31 ≡ true) × (modulus_of M31 ≡ 2 ^ 31 - 1))
    × ((file_modulus M61 ≡ true) × (modulus_of M61 ≡ 2 ^ 61 - 1))
    × ((k : ℕ) → (file_modulus (Small k) ≡ false) × (2 ≤ k → modulus_of (Small k) ≡ k))

-- "That p is prime is proved": so is each modulus of a file. (Demand: moduli_prime)
abbrev pub ModuliPrime : Type 0
ModuliPrime = (k : Modulus) → file_modulus k ≡ true → Prime (modulus_of k)

-- "of the p⁴ challenges": the count runs over all of them, and is the one that the constants of the
-- field types are tied to; for any q. (Balance: challenges_counted)
abbrev pub ChallengesCounted : Type 0
ChallengesCounted = (q : ℕ) → challenges q (λ ch. true) ≡ challenges_of q

-- the statement for any prime, of sizes and counts that it has room for (Demand: demand_at)
abbrev pub DemandAt : Type 0
DemandAt =
    (q : ℕ) (m : Memory) (n t : ℕ) (xs : List Parsed) → Prime q → 2 * t ≤ q → t + 1 < q → n ≤ q → Demand q m n t xs

-- Demand 3, for each modulus of a file and every memory, size, count and list of parsed rows that
-- the row call can be handed. (Demand: demand_three)
abbrev pub DemandThree : Type 0
DemandThree =
    (k : Modulus) (m : Memory) (n t : ℕ) (xs : List Parsed) → file_modulus k ≡ true → Demand (modulus_of k) m n t xs

-- The honest prover's rules, over well-formed rows. Where the trace is right, they refuse no row
-- and give rows that are complete and well-formed, with the same trace and the filler's advice.
-- (HonestRows: honest_rows)
pub record HonestRun (q : ℕ) (m : Memory) (n t : ℕ) (rows : List Row) : Type 0 where
  pub fills : (rows_fault q m (map (λ row. row.value) (init_rows n rows)) 1 (init_inputs n rows) (operation_inputs n t rows)).number ≡ 0
  pub complete :
      first_fault q m n t [] (map Ok (refilled_rows m n t rows)) ≡ refusal 0 0
  pub trace : trace_of m n t (refilled_rows m n t rows) ≡ trace_of m n t rows
  -- their advice is the filler's
  pub advised : allowed m n t ≡ true → Advised q m n t (refilled_rows m n t rows)

abbrev pub HonestRows : Type 0
HonestRows =
    (q : ℕ) (m : Memory) (n t : ℕ) (xs : List Parsed) → Prime q → t + 1 < q → n ≤ q → (first_fault q m n t [] xs).number ≡ 0
    → right (trace_of m n t (rows_of xs)) ≡ true → HonestRun q m n t (rows_of xs)

-- A run that the rules refuse is not right. (HonestRows: refused_not_right)
abbrev pub RefusedNotRight : Type 0
RefusedNotRight =
    (q : ℕ) (m : Memory) (n t : ℕ) (xs : List Parsed) → 2 ≤ q → (first_fault q m n t [] xs).number ≡ 0
    → let rows = rows_of xs in
    ((rows_fault q m (map (λ row. row.value) (init_rows n rows)) 1 (init_inputs n rows) (operation_inputs n t rows)).number ≡ 0 → ⊥)
    → right (trace_of m n t rows) ≡ false

-- What the filler writes is accepted. Init rows and operations that it fills: size and count are allowed, there are as many, and it refuses none of them
pub record Fillable (q : ℕ) (m : Memory) (n t : ℕ) (inits ops : List Input) : Type 0 where
  pub fit : allowed m n t ≡ true
  pub size : length inits ≡ n
  pub count : length ops ≡ t
  pub unrefused : (rows_fault q m (map (λ i. i.value) inits) 1 inits ops).number ≡ 0

-- the report of accepted rows: answer 0, line 0, and inputs and multiplications by document 01's table. Of complete and well-formed rows it is `accepted`, which
-- counts them, by GatesByFormula
unfoldable pub acceptance : Memory → ℕ → ℕ → List Row → Report
acceptance m n t rows = record {
  answer = 0;
  line = 0;
  inputs = inputs_formula m n t (puts rows) (takes rows) (raised rows - lowered rows);
  mults = mults_formula m n t (puts rows) (takes rows) (raised rows - lowered rows);
}

-- The filler's rows, handed one call at a time to a fresh state of any challenge, are accepted, at
-- each modulus of a file. (HonestFile: honest_run_accepted)
abbrev pub HonestRunAccepted : Type 0
HonestRunAccepted =
    (k : Modulus) (m : Memory) (n t : ℕ) (inits ops : List Input) (ch : Challenge) → file_modulus k ≡ true
    → Fillable (modulus_of k) m n t inits ops
    → elements (modulus_of k) ch ≡ true
    → let rows = filled_rows m t inits ops in
    report_of (end_of (steps_of (modulus_of k) (fresh_of (modulus_of k) m n t ch) (map Ok rows))) ≡ acceptance m n t rows

-- The moduli of a file whose elements a line can hold: 2 is "a number … over 10 digits". p is one,
-- and 2⁶¹ − 1 is none
pub record Written (k : Modulus) : Type 0 where
  pub named : file_modulus k ≡ true
  pub digits : modulus_of k ≤ 10 ^ most_digits

-- The bytes that the filler writes, behind both lines of the header with any challenge, are a file
-- that is accepted.
abbrev pub HonestFileAt : ℕ → Type 0
HonestFileAt q =
    (m : Memory) (n t : ℕ) (inits ops : List Input) (ch : Challenge) → Fillable q m n t inits ops
    → elements q ch ≡ true
    → let rows = filled_rows m t inits ops in file_report q (header_text m n t ch ++ filled_text rows) ≡ acceptance m n t rows

-- It holds at each of those moduli, (HonestFile: honest_file_accepted)
abbrev pub HonestFileAccepted : Type 0
HonestFileAccepted = (k : Modulus) → Written k → HonestFileAt (modulus_of k)

-- and so at document 01's p. (HonestFile: honest_file_at_p)
abbrev pub HonestFileAtP : Type 0
HonestFileAtP = HonestFileAt p

-- the numbers with which the filling program refuses: "1 to 7 by line, then 11 to 13"
abbrev pub FillNumber : ℕ → Type 0
FillNumber k = ((1 ≤ k) × (k ≤ 7)) ⊎ ((11 ≤ k) × (k ≤ 13))

-- The filling program, for any input: it prints a refusal,
pub record FillRefused (q : ℕ) (bytes : List ℕ) : Type 0 where
  pub number : ℕ
  pub line : ℕ
  pub fault : FillNumber number
  pub printed : fill_text q bytes ≡ refusal_text number line

-- or the file from line 3 on, of the memory, size and count of its value line and of its rows; and behind the header with any challenge that is accepted
pub record FillAccepted (q : ℕ) (bytes : List ℕ) : Type 0 where
  pub memory : Memory
  pub size : ℕ
  pub count : ℕ
  pub inits : List Input
  pub ops : List Input
  pub asked : parse_job q (get_or (lines_of bytes) 1 (record { text = []; ended = false })) ≡ job memory size count
  pub given : inputs_of_lines (map (parse_input q) (drop head_lines (lines_of bytes))) ≡ inits ++ ops
  pub fillable : Fillable q memory size count inits ops
  pub printed : fill_text q bytes ≡ filled_text (filled_rows memory count inits ops)
  pub accepted :
      (ch : Challenge) → elements q ch ≡ true
      → file_report q (header_text memory size count ch ++ fill_text q bytes) ≡ acceptance memory size count (filled_rows memory count inits ops)

abbrev pub FillingAt : ℕ → Type 0
FillingAt q = (bytes : List ℕ) → FillRefused q bytes ⊎ FillAccepted q bytes

-- (FilledFile: filling_accepted)
abbrev pub FillingAccepted : Type 0
FillingAccepted = (k : Modulus) → Written k → FillingAt (modulus_of k)

-- (FilledFile: filling_at_p)
abbrev pub FillingAtP : Type 0
FillingAtP = FillingAt p

-- "1 to 7 by line, then 11 to 13": rows that meet none of 1 to 7 meet none of 3, 5 and 6 in the filler's library. (FillTested: tested_rows_late)
abbrev pub TestedRowsLate : Type 0
TestedRowsLate =
    (q : ℕ) (m : Memory) (n t : ℕ) (lines : List Line) → (inputs_fault q m n t 0 (map (parse_input q) lines)).number ≡ 0
    → let rows = inputs_of_lines (map (parse_input q) lines) in
    late (rows_fault q m (map (λ i. i.value) (take n rows)) 1 (take n rows) (drop n rows)).number ≡ true
