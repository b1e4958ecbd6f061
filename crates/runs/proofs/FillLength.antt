-- How long the filling program's text is at most: the rows that the filler writes have the room that it wants, and a printed number has at most 20 digits.
-- Assumes nothing.
use Prim.Native.Nat.{ℕ, zero, suc, ◌+◌, ◌-◌, ◌*◌, ◌/◌, ◌%◌, ◌≤◌}
use native.Mathlib.Omega.{arith}
use mathlib.Core.Path.{◌≡◌, refl, sym, ◌∙◌, ap}
use mathlib.Core.Bool.{Bool, true, false, cond}
use mathlib.Core.List.{List, [], ◌∷◌, ◌++◌, map}
use lib.Dec.{eqb, ltb}
use lib.ListN.{length, take, drop, replicate, length-append, length-map, length-set, length-take, length-drop, length-replicate}
use Rattle.memory.specs.declared.Memory.{Memory}
use Rattle.memory.specs.declared.Memory.TheVariants.{Ram, Rom, Set, Stack, Queue}
use Rattle.memory.specs.declared.Op.TheVariants.{Push, Enqueue}
use Rattle.memory.specs.declared.Row.{Row}
use Rattle.memory.specs.Content.{Content, no_content, number_of}
use Rattle.memory.specs.Text.{bytes}
use Rattle.memory.specs.Bytes.{comma, feed}
use Rattle.memory.specs.Names.{is_op, op_name, row_names, refusal_names}
use Rattle.runs.specs.Honest.{Input, bare, end_row, range_rows_from, Cell, cell, ram_age, ram_cells, ram_ends, ram_from, rom_ends_from, rom_from, set_ends_from, set_from, stack_ends, pop_time, stack_from, queue_from, operations_filled, filled_rows}
use Rattle.runs.specs.Filler.{inputs_in, rows_fault}
use Rattle.memory.specs.Print.{digits_onto, number_text, numbers_text, row_text, rows_text, refusal_text, filled_text}
use Rattle.runs.specs.FillFile.{fill_limit, run_text}
use Rattle.memory.specs.Pieces.{bytes_in, end_in}
use Rattle.runs.specs.FillStream.{Gathered, rows_due, line_taken, end_taken, due_words, gathered_text, unfilled, fill_end}
use Rattle.runs.specs.Statements.{FillTextShort}
use Rattle.runs.proofs.Lengths.{name_length}
use Rattle.runs.proofs.FillStream.{Fitted, fitted_end, end_values, fill_limited, fill_stream_is_text}

-- A number, a line of numbers, a row, rows
digits_short : (most n : ℕ) (rest : List ℕ) → length (digits_onto most n rest) ≤ most + length rest
unfolding digits_onto
digits_short zero n rest = omega arith
digits_short (suc most) n rest = go (ltb n 10) (digits_short most (n / 10) ((48 + n % 10) ∷ rest))
  where
    more : List ℕ
    more = digits_onto most (n / 10) ((48 + n % 10) ∷ rest)

    go : (b : Bool) → length more ≤ most + suc (length rest) → length (cond b ((48 + n) ∷ rest) more) ≤ suc most + length rest
    go true h = omega arith
    go false h = omega arith

number_short : (n : ℕ) → length (number_text n) ≤ 20
unfolding number_text
number_short n = digits_short 20 n []

numbers_short : (x : ℕ) (ys : List ℕ) → length (numbers_text x ys) ≤ 21 + 21 * length ys
unfolding numbers_text
numbers_short x [] = omega (arith, length-append (number_text x) (feed ∷ []), number_short x)
numbers_short x (y ∷ ys) = omega (arith, length-append (number_text x) (comma ∷ numbers_text y ys), number_short x, numbers_short y ys)

row_short : (row : Row) → length (row_text row) ≤ 134
unfolding row_text
row_short row =
    let rest : List ℕ = row.addr ∷ number_of row.value ∷ number_of row.old ∷ row.time ∷ row.version ∷ [] in
    omega (arith, length-append (op_name row.op) (comma ∷ numbers_text row.guard rest), name_length row.op, numbers_short row.guard rest)

rows_short : (rows : List Row) → length (rows_text rows) ≤ 134 * length rows
unfolding rows_text
rows_short [] = omega arith
rows_short (row ∷ rows) = omega (arith, length-append (row_text row) (rows_text rows), row_short row, rows_short rows)

filled_short : (rows : List Row) → length (filled_text rows) ≤ 37 + 134 * length rows
unfolding filled_text row_names bytes
filled_short rows = omega (arith, rows_short rows)

refusal_short : (answer line : ℕ) → length (refusal_text answer line) ≤ 54
unfolding refusal_text refusal_names bytes
refusal_short answer line = omega (arith, numbers_short answer (line ∷ []))

-- How many rows the filler writes
range_count : (i t : ℕ) (ages : List ℕ) → length (range_rows_from i t ages) ≡ t
unfolding range_rows_from
range_count i zero ages = refl
range_count i (suc t) ages = ap suc (range_count (suc i) t ages)

ram_count : (cells : List Cell) (clock : ℕ) (ages : List ℕ) (t : ℕ) (ops : List Input) → length (ram_from cells clock ages t ops) ≡ length ops + (length cells + t)
unfolding ram_from ram_ends ram_cells
ram_count cells clock ages t [] =
    length-append (ram_ends cells) (range_rows_from 1 t ages)
    ∙ omega (arith, length-map cells (λ c. end_row no_content c.content c.time 0), range_count 1 t ages)
ram_count cells clock ages t (i ∷ is) =
    let kept : length (ram_cells cells clock i) ≡ length cells = length-set cells i.addr _ in
    omega (arith, ram_count (ram_cells cells clock i) (suc clock) (ram_age cells clock i ∷ ages) t is, kept)

rom_ends_count : (k : ℕ) (vs : List Content) (keys : List ℕ) → length (rom_ends_from k vs keys) ≡ length vs
unfolding rom_ends_from
rom_ends_count k [] keys = refl
rom_ends_count k (v ∷ vs) keys = ap suc (rom_ends_count (suc k) vs keys)

rom_count : (cells : List Content) (keys : List ℕ) (ops : List Input) → length (rom_from cells keys ops) ≡ length ops + length cells
unfolding rom_from
rom_count cells keys [] = omega (arith, rom_ends_count 0 cells keys)
rom_count cells keys (i ∷ is) = omega (arith, rom_count cells (i.addr ∷ keys) is)

set_ends_count : (earlier vs : List Content) (keys : List ℕ) → length (set_ends_from earlier vs keys) ≡ length vs
unfolding set_ends_from
set_ends_count earlier [] keys = refl
set_ends_count earlier (v ∷ vs) keys = ap suc (set_ends_count (v ∷ earlier) vs keys)

set_count : (elements : List Content) (keys : List ℕ) (ops : List Input) → length (set_from elements keys ops) ≡ length ops + length elements
unfolding set_from
set_count elements keys [] = omega (arith, set_ends_count [] elements keys)
set_count elements keys (i ∷ is) = omega (arith, set_count elements (number_of i.value ∷ keys) is)

stack_ends_count : (cells : List Cell) → length (stack_ends cells) ≡ length cells
unfolding stack_ends
stack_ends_count [] = refl
stack_ends_count (c ∷ cells) =
    length-append (stack_ends cells) (end_row no_content c.content c.time 0 ∷ []) ∙ omega (arith, stack_ends_count cells)

-- one more at most
chosen_within : {A : Type 0} (b : Bool) (x y : List A) (n : ℕ) → length x ≤ n → length y ≤ n → length (cond b x y) ≤ n
chosen_within true x y n h g = h
chosen_within false x y n h g = g

stack_count : (cells : List Cell) (clock : ℕ) (ages : List ℕ) (t : ℕ) (ops : List Input) → length (stack_from cells clock ages t ops) ≤ 2 * length ops + (length cells + t)
unfolding stack_from
stack_count cells clock ages t [] =
    omega (arith, length-append (stack_ends cells) (range_rows_from 1 t ages), stack_ends_count cells, range_count 1 t ages)
stack_count cells clock ages t (i ∷ is) =
    let pushed : List Cell = cond (eqb i.guard 1) (cell i.value clock ∷ cells) cells in
    let popped : List Cell = cond (eqb i.guard 1) (drop 1 cells) cells in
    let more = chosen_within (eqb i.guard 1) (cell i.value clock ∷ cells) cells (suc (length cells)) (omega arith) (omega arith) in
    let fewer = chosen_within (eqb i.guard 1) (drop 1 cells) cells (length cells) (omega (arith, length-drop 1 cells)) (omega arith) in
    chosen_within (is_op i.op Push) _ _ _
    (omega (arith, stack_count pushed (clock + i.guard) ages t is, more))
    (omega (arith, stack_count popped clock ((clock - pop_time cells clock i) ∷ ages) t is, fewer))

queue_count : (content : List Content) (ops : List Input) → length (queue_from content ops) ≤ 2 * length ops + length content
unfolding queue_from
queue_count content [] = omega (arith, length-map content (λ v. end_row no_content v 0 0))
queue_count content (i ∷ is) =
    let put : List Content = cond (eqb i.guard 1) (content ++ i.value ∷ []) content in
    let taken : List Content = cond (eqb i.guard 1) (drop 1 content) content in
    let more = chosen_within (eqb i.guard 1) (content ++ i.value ∷ []) content (suc (length content)) (omega (arith, length-append content (i.value ∷ []))) (omega arith) in
    let fewer = chosen_within (eqb i.guard 1) (drop 1 content) content (length content) (omega (arith, length-drop 1 content)) (omega arith) in
    chosen_within (is_op i.op Enqueue) _ _ _ (omega (arith, queue_count put is, more)) (omega (arith, queue_count taken is, fewer))

-- "It wants room for 2n + 3T output rows"
operations_count : (m : Memory) (t : ℕ) (inits : List Content) (ops : List Input) → length (operations_filled m t inits ops) ≤ length inits + 2 * length ops + t
unfolding operations_filled
operations_count Ram t inits ops = omega (arith, ram_count (map (λ v. cell v 0) inits) 1 [] t ops, length-map inits (λ v. cell v 0))
operations_count Rom t inits ops = omega (arith, rom_count inits [] ops)
operations_count Set t inits ops = omega (arith, set_count inits [] ops)
operations_count Stack t inits ops = omega (arith, stack_count [] 1 [] t ops)
operations_count Queue t inits ops = omega (arith, queue_count [] ops)

pub filled_count : (m : Memory) (t : ℕ) (inits ops : List Input) → length (filled_rows m t inits ops) ≤ 2 * length inits + 2 * length ops + t
unfolding filled_rows
filled_count m t inits ops =
    omega (
      arith,
      length-append (map bare inits) (operations_filled m t (map (λ i. i.value) inits) ops),
      length-map inits bare,
      length-map inits (λ i. i.value),
      operations_count m t (map (λ i. i.value) inits) ops,
    )

-- the rows of a slice of words
inputs_count : (ws : List ℕ) (n : ℕ) → length ws ≤ 4 * n → length (inputs_in ws) ≤ n
unfolding inputs_in
inputs_count [] n h = omega arith
inputs_count (o ∷ []) n h = omega arith
inputs_count (o ∷ g ∷ []) n h = omega arith
inputs_count (o ∷ g ∷ a ∷ []) n h = omega arith
inputs_count (o ∷ g ∷ a ∷ v ∷ rest) zero h = absurd (omega arith)
inputs_count (o ∷ g ∷ a ∷ v ∷ rest) (suc n) h = omega (arith, inputs_count rest n (omega arith))

-- what is printed of rows
run_short : (q : ℕ) (m : Memory) (n t : ℕ) (rows : List Input) → n ≤ 128 → t ≤ 128 → length rows ≤ n + t → length (run_text q m n t rows) ≤ 85797
unfolding run_text
run_short q m n t rows small few all =
    let inits = take n rows in
    let ops = drop n rows in
    let f = rows_fault q m (map (λ i. i.value) inits) 1 inits ops in
    let count = filled_count m t inits ops in
    chosen_within (eqb f.number 0) (filled_text (filled_rows m t inits ops)) (refusal_text f.number (f.place + 3)) 85797
    (omega (arith, filled_short (filled_rows m t inits ops), count, length-take n rows, length-drop n rows))
    (omega (arith, refusal_short f.number (f.place + 3)))

gathered_short : (q k : ℕ) (g : Gathered) → Fitted k g → length (gathered_text q g) ≤ 85797
unfolding gathered_text
gathered_short q k g h =
    let i = g.intake in
    let x = end_taken i in
    let same = end_values i in
    let limits = fill_limited i.memory i.size i.count h.limits in
    let rows : length (inputs_in (due_words g)) ≤ x.size + x.count =
    inputs_count (due_words g) (x.size + x.count)
    (unfold due_words rows_due in omega (arith, length-take (4 * (i.size + i.count)) g.words, same.1, same.2)) in
    chosen_within (eqb x.answer 0) (run_text q x.memory x.size x.count (inputs_in (due_words g))) (refusal_text x.answer x.line) 85797
    (run_short q x.memory x.size x.count (inputs_in (due_words g)) (omega (arith, same.1, limits.0)) (omega (arith, same.2, limits.1)) rows)
    (omega (arith, refusal_short x.answer x.line))

-- the program's words, whatever they hold, are as good as any
pub fill_text_short : FillTextShort
unfolding fill_end fill_limit
fill_text_short q input =
    let ws : List ℕ = replicate {A = ℕ} 1024 0 in
    let room : 1024 ≤ length ws = omega (arith, length-replicate {A = ℕ} 1024 0) in
    rw (sym (fill_stream_is_text q input ws room))
    (gathered_short q (length ws) (end_in (line_taken q) (bytes_in (line_taken q) (unfilled ws) input)) (fitted_end q input ws))
