-- What the filler writes is accepted at every challenge: the lines of the header and of the filler's rows, what the value line reads as, and the report of the
-- file and of the rows handed one call at a time.
-- Assumes nothing.
use Prim.Native.Nat.{ℕ, ◌+◌, ◌*◌, ◌≤◌, ◌<◌}
use native.Mathlib.Omega.{arith}
use mathlib.Core.Path.{◌≡◌, refl, sym, ◌∙◌, ap, ap₂}
use mathlib.Core.Bool.{true}
use Rattle.std.specs.Prelude.{Some}
use mathlib.Core.List.{List, [], ◌∷◌, ◌++◌, map, append_assoc}
use lib.ListN.{length, length-append}
use borrow.Author.Tests.{lt-ltb}
use Rattle.algebra.specs.Prime.{Prime}
use Rattle.field.specs.Field.{p}
use Rattle.field.specs.declared.moduli.Modulus.TheVariants.{M31}
use Rattle.field.specs.Moduli.{modulus_of, file_modulus}
use Rattle.memory.specs.declared.Memory.{Memory}
use Rattle.memory.specs.declared.Memory.TheVariants.{Ram, Rom, Set, Stack, Queue}
use Rattle.memory.specs.declared.Row.{Row}
use Rattle.std.specs.Prelude.{Ok}
use Rattle.memory.specs.declared.Challenge.{Challenge}
use Rattle.memory.specs.declared.Report.{Report}
use Rattle.memory.specs.Text.{bytes}
use Rattle.memory.specs.Bytes.{Line, comma, feed, same, all_below, lines_of}
use Rattle.memory.specs.Names.{value_names, row_names, memory_name, memory_named}
use Rattle.memory.specs.Rows.{limit, allowed}
use Rattle.memory.specs.File.{parsed_row, rows_of, parse_rows, refusal, accepted, balance_report, rows_report, values_fault, values_report, opens, opened_by, values_read, parse_values, names_report, opening_report, lines_report, file_report}
use Rattle.runs.specs.Honest.{Input, filled_rows}
use Rattle.memory.specs.Print.{number_text, rows_text, filled_text, header_text}
use Rattle.memory.specs.Step.{steps_of, fresh_of, end_of, report_of}
use Rattle.memory.specs.Bound.{elements}
use Rattle.demands.specs.Statements.{Fillable, acceptance, Written, HonestRunAccepted, HonestFileAccepted, HonestFileAtP}
use Rattle.memory.proofs.Fold.{fold_is_file}
use Rattle.memory.proofs.WholeFile.{whole, whole_names}
use Rattle.memory.proofs.Phases.{Parts, parts_no_fault}
use Rattle.memory.proofs.Gates.{parts_gates}
use Rattle.memory.proofs.Decimal.{ten_digits}
use Rattle.runs.proofs.Lengths.{numbers_length}
use Rattle.demands.proofs.RoundTrip.{above, line_first, joined, joined_above, numbers_line, all_below_more, fields_back, rows_round_trip}
use Rattle.demands.proofs.Advice.{values_of, Unrefused, no_refusal}
use Rattle.demands.proofs.HonestRows.{filled_parts}
use Rattle.demands.proofs.HonestBalances.{filled_balances, values_pass}
use Rattle.demands.proofs.FilledBelow.{filled_printable_rows, filled_below}
use Rattle.demands.proofs.Demand.{sized_limit, allowed_sized, file_prime}

-- The names of the memories: their bytes are above the comma, they have at most 5, and a memory's name is that memory's.
memory_above : (m : Memory) → above comma (memory_name m) ≡ true
unfolding above comma memory_name bytes
memory_above Ram = refl
memory_above Rom = refl
memory_above Set = refl
memory_above Stack = refl
memory_above Queue = refl

memory_length : (m : Memory) → length (memory_name m) ≤ 5
unfolding memory_name bytes
memory_length Ram = omega arith
memory_length Rom = omega arith
memory_length Set = omega arith
memory_length Stack = omega arith
memory_length Queue = omega arith

memory_back : (m : Memory) → memory_named (memory_name m) ≡ Some m
unfolding memory_named memory_name same bytes
memory_back Ram = refl
memory_back Rom = refl
memory_back Set = refl
memory_back Stack = refl
memory_back Queue = refl

-- the values of a value line after its memory, and its text
values_in : ℕ → ℕ → Challenge → List ℕ
values_in n t ch = n ∷ t ∷ ch.r ∷ ch.a ∷ ch.b ∷ ch.c ∷ []

value_text : Memory → ℕ → ℕ → Challenge → List ℕ
value_text m n t ch = joined (memory_name m) (values_in n t ch)

-- the bytes of a file by its lines
header_line : (m : Memory) (n t : ℕ) (ch : Challenge) → header_text m n t ch ≡ value_names ++ feed ∷ (value_text m n t ch ++ feed ∷ [])
unfolding header_text value_text values_in joined
header_line m n t ch =
    let rest : List ℕ = t ∷ ch.r ∷ ch.a ∷ ch.b ∷ ch.c ∷ [] in
    ap (λ (text : List ℕ). value_names ++ feed ∷ text)
    (ap (λ (text : List ℕ). memory_name m ++ comma ∷ text) (numbers_line n rest)
    ∙ sym (append_assoc (memory_name m) (comma ∷ joined (number_text n) rest) (feed ∷ [])))

file_bytes : (m : Memory) (n t : ℕ) (ch : Challenge) (rows : List Row)
    → header_text m n t ch ++ filled_text rows ≡ value_names ++ feed ∷ (value_text m n t ch ++ feed ∷ (row_names ++ feed ∷ rows_text rows))
unfolding filled_text
file_bytes m n t ch rows =
    let rest : List ℕ = row_names ++ feed ∷ rows_text rows in
    ap (λ (text : List ℕ). text ++ rest) (header_line m n t ch)
    ∙ (append_assoc value_names (feed ∷ (value_text m n t ch ++ feed ∷ [])) rest
    ∙ ap (λ (text : List ℕ). value_names ++ feed ∷ text) (append_assoc (value_text m n t ch) (feed ∷ []) rest))

-- the names lines hold no line feed
value_names_above : above feed value_names ≡ true
unfolding above feed value_names bytes
value_names_above = refl

row_names_above : above feed row_names ≡ true
unfolding above feed row_names bytes
row_names_above = refl

value_text_above : (m : Memory) (n t : ℕ) (ch : Challenge) → above feed (value_text m n t ch) ≡ true
unfolding value_text
value_text_above m n t ch = joined_above (memory_name m) (values_in n t ch) (memory_above m)

-- the lines of a file
file_lines : (m : Memory) (n t : ℕ) (ch : Challenge) (rows : List Row)
    → lines_of (header_text m n t ch ++ filled_text rows)
    ≡ whole value_names ∷ whole (value_text m n t ch) ∷ whole row_names ∷ lines_of (rows_text rows)
unfolding whole
file_lines m n t ch rows =
    ap lines_of (file_bytes m n t ch rows)
    ∙ (line_first value_names (value_text m n t ch ++ feed ∷ (row_names ++ feed ∷ rows_text rows)) value_names_above
    ∙ ap (λ (ls : List Line). whole value_names ∷ ls)
    (line_first (value_text m n t ch) (row_names ++ feed ∷ rows_text rows) (value_text_above m n t ch)
    ∙ ap (λ (ls : List Line). whole (value_text m n t ch) ∷ ls) (line_first row_names (rows_text rows) row_names_above)))

-- the value line holds at most 80 bytes
value_length : (m : Memory) (n t : ℕ) (ch : Challenge) → all_below ten_digits (values_in n t ch) ≡ true → length (value_text m n t ch) ≤ 72
unfolding value_text values_in joined
value_length m n t ch h =
    let rest : List ℕ = t ∷ ch.r ∷ ch.a ∷ ch.b ∷ ch.c ∷ [] in
    omega (
      arith,
      memory_length m,
      length-append (memory_name m) (comma ∷ joined (number_text n) rest),
      numbers_length n rest h,
      ap length (numbers_line n rest),
      length-append (joined (number_text n) rest) (feed ∷ []),
    )

-- and reads as its values
value_line_back : (q : ℕ) (m : Memory) (n t : ℕ) (ch : Challenge) → q ≤ ten_digits → allowed m n t ≡ true → all_below q (values_in n t ch) ≡ true
    → parse_values q (whole (value_text m n t ch)) ≡ opens m n t ch
unfolding parse_values values_read opened_by whole value_text values_in
value_line_back q m n t ch h fine below =
    let digits : all_below ten_digits (values_in n t ch) ≡ true = all_below_more q ten_digits (values_in n t ch) h below in
    let read = fields_back q (memory_name m) (values_in n t ch) h (memory_above m) below (omega (arith, value_length m n t ch digits)) in
    rw (read, memory_back m, fine)

-- A file with a right header is what its rows are.
file_of_rows : (q : ℕ) (m : Memory) (n t : ℕ) (ch : Challenge) (rows : List Row) → q ≤ ten_digits → allowed m n t ≡ true → all_below q (values_in n t ch) ≡ true → values_fault q m n t ch ≡ 0
    → file_report q (header_text m n t ch ++ filled_text rows) ≡ values_report q m n t ch (parse_rows q (lines_of (rows_text rows)))
unfolding file_report lines_report opening_report names_report
file_of_rows q m n t ch rows h fine below pass =
    ap (lines_report q) (file_lines m n t ch rows)
    ∙ rw (whole_names value_names, value_line_back q m n t ch h fine below, pass, whole_names row_names)

-- Rows of no fault whose lists balance are accepted.
rows_of_sound : (rows : List Row) → rows_of (map Ok rows) ≡ rows
unfolding rows_of parsed_row
rows_of_sound [] = refl
rows_of_sound (row ∷ rows) = ap {B = List Row} (λ l. row ∷ l) (rows_of_sound rows)

-- The filler's rows, for a prime with room.
module _ (q : ℕ) (m : Memory) (n t : ℕ) (inits ops : List Input) (ch : Challenge) (prime : Prime q) (room : t + 1 < q) (size : length inits ≡ n) (count : length ops ≡ t)
    (u : Unrefused q m (values_of inits) inits ops) where
  filled : List Row
  filled = filled_rows m t inits ops

  -- their report is that of accepted rows
  filled_report : values_fault q m n t ch ≡ 0 → values_report q m n t ch (map Ok filled) ≡ accepted m filled
  unfolding values_report rows_report balance_report filled refusal
  filled_report pass =
      let balances = filled_balances q m n t inits ops ch prime room size count u in
      rw (pass, parts_no_fault q m n t filled (filled_below q m t inits ops room count u) (filled_parts q m n t inits ops prime room size count u), rows_of_sound filled, balances.0, balances.1)

  -- and their lines read as them
  filled_read_lem : q ≤ ten_digits → parse_rows q (lines_of (rows_text filled)) ≡ map Ok filled
  unfolding parse_rows filled
  filled_read_lem h = rows_round_trip q filled h (filled_printable_rows q m t inits ops room count u)

-- by the formulas of document 01's table
accepted_by_formula : (q : ℕ) (m : Memory) (n t : ℕ) (rows : List Row) → allowed m n t ≡ true → Parts q m n t rows → accepted m rows ≡ acceptance m n t rows
unfolding accepted acceptance
accepted_by_formula q m n t rows fit parts =
    let gates = parts_gates q m n t rows (allowed_sized m n t fit).0 parts in
    ap₂ {C = Report} (λ i k. record { answer = 0; line = 0; inputs = i; mults = k }) gates.0 gates.1

-- What the filler writes, at any prime that has room for all sizes and counts.
module _ (q : ℕ) (prime : Prime q) (wide : 2 * limit ≤ q) (m : Memory) (n t : ℕ) (inits ops : List Input) (ch : Challenge) (f : Fillable q m n t inits ops) (inside : elements q ch ≡ true) where
  rows : List Row
  rows = filled_rows m t inits ops

  unrefused : Unrefused q m (values_of inits) inits ops
  unrefused = no_refusal q m (values_of inits) 1 inits ops f.unrefused

  small : (n < q) × (t + 1 < q)
  unfolding limit
  small =
      let size = sized_limit m n (allowed_sized m n t f.fit).0 in
      let count = (allowed_sized m n t f.fit).1 in
      (omega arith, omega arith)

  counts_below : all_below q (n ∷ t ∷ []) ≡ true
  unfolding all_below
  counts_below = rw (lt-ltb n q small.0, lt-ltb t q (omega (arith, small.1)))

  pass : values_fault q m n t ch ≡ 0
  pass = values_pass q m n t ch counts_below f.fit inside

  values : all_below q (values_in n t ch) ≡ true
  unfolding all_below values_in
  values = rw (lt-ltb n q small.0, lt-ltb t q (omega (arith, small.1)), inside)

  parts : Parts q m n t rows
  unfolding rows
  parts = filled_parts q m n t inits ops prime small.1 f.size f.count unrefused

  -- their report
  rows_accepted : values_report q m n t ch (map Ok rows) ≡ acceptance m n t rows
  unfolding rows filled
  rows_accepted =
      filled_report q m n t inits ops ch prime small.1 f.size f.count unrefused pass ∙ accepted_by_formula q m n t rows f.fit parts

  run_accepted : report_of (end_of (steps_of q (fresh_of q m n t ch) (map Ok rows))) ≡ acceptance m n t rows
  run_accepted = fold_is_file q m n t ch (map Ok rows) prime.two ∙ rows_accepted

  -- and, where a line can hold each element, what their lines read as
  lines_read : q ≤ ten_digits → parse_rows q (lines_of (rows_text rows)) ≡ map Ok rows
  unfolding rows filled
  lines_read digits = filled_read_lem q m n t inits ops ch prime small.1 f.size f.count unrefused digits

  file_accepted : q ≤ ten_digits → file_report q (header_text m n t ch ++ filled_text rows) ≡ acceptance m n t rows
  file_accepted digits = file_of_rows q m n t ch rows digits f.fit values pass ∙ (ap (values_report q m n t ch) (lines_read digits) ∙ rows_accepted)

-- Row by row.
pub honest_run_accepted : HonestRunAccepted
unfolding rows
honest_run_accepted k m n t inits ops ch named f inside =
    let prime = file_prime k named in
    run_accepted (modulus_of k) prime.0 prime.1 m n t inits ops ch f inside

-- As bytes, behind the header.
pub honest_file_accepted : HonestFileAccepted
unfolding rows
honest_file_accepted k w m n t inits ops ch f inside =
    let prime = file_prime k w.named in
    file_accepted (modulus_of k) prime.0 prime.1 m n t inits ops ch f inside w.digits

-- p is such a modulus
pub written_p : Written M31
unfolding p modulus_of file_modulus
written_p = record { named = refl; digits = omega arith }

pub honest_file_at_p : HonestFileAtP
unfolding modulus_of
honest_file_at_p = honest_file_accepted M31 written_p
