-- Rows that are printed read back: a text's lines and fields, and the row that a row's line reads as.
-- Assumes nothing.
use mathlib.Core.Path.{◌≡◌, refl, sym, ap, ap₂, ◌∙◌}
use mathlib.Core.Bool.{Bool, true, false, ◌&&◌}
use mathlib.Core.List.{List, [], ◌∷◌, ◌++◌, map, append_assoc, append-nil}
use Prim.Native.Nat.{ℕ, suc, ◌≤◌, ◌<◌}
use native.Mathlib.Omega.{arith}
use lib.Dec.{eqb, leb, ltb}
use lib.ListN.{length, length-append, length-map}
use borrow.Author.Tests.{eq-eqb, ne_eqb, leb-true, ltb-true, lt-ltb, le-leb}
use Rattle.memory.specs.declared.Op.{Op}
use Rattle.memory.specs.declared.Op.TheVariants.{Init, Access, Look, Member, Push, Pop, Enqueue, Dequeue, End, Range, Other}
use Rattle.memory.specs.declared.Row.{Row}
use Rattle.memory.specs.Faults.{Parsed}
use Rattle.std.specs.Prelude.{Ok}
use Rattle.memory.specs.Content.{number_of}
use Rattle.memory.specs.Text.{bytes}
use Rattle.memory.specs.Bytes.{Line, longest, fitting, comma, feed, same, onto, fields, digit, digits, numerals, numbers, all_below, named, readable, fields_of, before, lines_of}
use Rattle.memory.specs.Names.{op_name, op_named, op_code, is_op}
use Rattle.memory.specs.Rows.{row_with, row_read, parse_row}
use Rattle.memory.specs.Print.{number_text, numbers_text, row_text, rows_text}
use Rattle.memory.proofs.Decimal.{ten_digits, number_digits, number_value, number_numeral}
use Rattle.memory.proofs.ReadRows.{SingleRow}
use Rattle.runs.proofs.Lengths.{both_true, columns_of, row_length}

-- a text whose bytes are all above c: a field's are above the comma, a line's above the line feed
unfoldable pub above : ℕ → List ℕ → Bool
above c [] = true
above c (b ∷ bs) = ltb c b && above c bs

above_parts : (c b : ℕ) (bs : List ℕ) → above c (b ∷ bs) ≡ true → (c < b) × (above c bs ≡ true)
unfolding above
above_parts c b bs e = let parts = both_true (ltb c b) (above c bs) e in (ltb-true c b parts.0, parts.1)

above_cons : (c b : ℕ) (bs : List ℕ) → c < b → above c bs ≡ true → above c (b ∷ bs) ≡ true
unfolding above
above_cons c b bs h e = simp (lt-ltb c b h, e)

above_append : (c : ℕ) (s t : List ℕ) → above c s ≡ true → above c t ≡ true → above c (s ++ t) ≡ true
above_append c [] t p q = q
above_append c (b ∷ bs) t p q =
    let parts = above_parts c b bs p in
    above_cons c b (bs ++ t) parts.0 (above_append c bs t parts.1 q)

above_less : (c d : ℕ) (text : List ℕ) → c ≤ d → above d text ≡ true → above c text ≡ true
unfolding above
above_less c d [] h p = refl
above_less c d (b ∷ bs) h p =
    let parts = above_parts d b bs p in
    above_cons c b bs (omega (arith, parts.0)) (above_less c d bs h parts.1)

-- digits are above the comma
digits_above : (text : List ℕ) → digits text ≡ true → above comma text ≡ true
unfolding above digits digit comma
digits_above [] e = refl
digits_above (b ∷ bs) e =
    let parts = both_true (leb 48 b && leb b 57) (digits bs) e in
    above_cons 44 b bs (omega (arith, leb-true 48 b (both_true (leb 48 b) (leb b 57) parts.0).0)) (digits_above bs parts.1)

-- and so are the names of the ops
name_above : (o : Op) → above comma (op_name o) ≡ true
unfolding above comma op_name bytes
name_above Init = refl
name_above Access = refl
name_above Look = refl
name_above Member = refl
name_above Push = refl
name_above Pop = refl
name_above Enqueue = refl
name_above Dequeue = refl
name_above End = refl
name_above Range = refl
name_above Other = refl

above_other : (c b : ℕ) → c < b → eqb b c ≡ false
above_other c b h = ne_eqb b c (λ e. omega arith)

-- a text up to its first line feed is its first line
pub line_first : (text rest : List ℕ) → above feed text ≡ true → lines_of (text ++ feed ∷ rest) ≡ record { text = text; ended = true } ∷ lines_of rest
unfolding lines_of before feed
line_first [] rest p = refl
line_first (b ∷ bs) rest p =
    let parts = above_parts feed b bs p in
    simp (above_other feed b parts.0, line_first bs rest parts.1)

-- a text up to its first comma is its first field
pub field_first : (text rest : List ℕ) → above comma text ≡ true → fields (text ++ comma ∷ rest) ≡ text ∷ fields rest
unfolding fields onto comma
field_first [] rest p = refl
field_first (b ∷ bs) rest p =
    let parts = above_parts comma b bs p in
    simp (above_other comma b parts.0, field_first bs rest parts.1)

field_last : (text : List ℕ) → above comma text ≡ true → fields text ≡ text ∷ []
unfolding fields onto comma
field_last [] p = refl
field_last (b ∷ bs) p =
    let parts = above_parts comma b bs p in
    simp (above_other comma b parts.0, field_last bs parts.1)

-- a field with numbers after it, commas between
unfoldable pub joined : List ℕ → List ℕ → List ℕ
joined f [] = f
joined f (n ∷ ns) = f ++ comma ∷ joined (number_text n) ns

number_above : (n : ℕ) → above comma (number_text n) ≡ true
number_above n = digits_above (number_text n) (number_digits n)

pub joined_fields : (f : List ℕ) (ns : List ℕ) → above comma f ≡ true → fields (joined f ns) ≡ f ∷ map number_text ns
unfolding joined
joined_fields f [] p = field_last f p
joined_fields f (n ∷ ns) p =
    field_first f (joined (number_text n) ns) p
    ∙ ap (λ (fs : List (List ℕ)). f ∷ fs) (joined_fields (number_text n) ns (number_above n))

pub joined_above : (f : List ℕ) (ns : List ℕ) → above comma f ≡ true → above feed (joined f ns) ≡ true
unfolding joined comma feed
joined_above f [] p = above_less 10 44 f (omega arith) p
joined_above f (n ∷ ns) p =
    above_append 10 f (44 ∷ joined (number_text n) ns) (above_less 10 44 f (omega arith) p)
    (above_cons 10 44 (joined (number_text n) ns) (omega arith) (joined_above (number_text n) ns (number_above n)))

-- the numbers of the fields
pub numbers_back : (ns : List ℕ) → all_below ten_digits ns ≡ true → numbers (map number_text ns) ≡ ns
unfolding numbers all_below
numbers_back [] h = refl
numbers_back (n ∷ ns) h =
    let parts = both_true (ltb n ten_digits) (all_below ten_digits ns) h in
    ap₂ (λ (x : ℕ) (xs : List ℕ). x ∷ xs) (number_value n (ltb-true n ten_digits parts.0)) (numbers_back ns parts.1)

pub numerals_back : (ns : List ℕ) → all_below ten_digits ns ≡ true → numerals (map number_text ns) ≡ true
unfolding numerals all_below
numerals_back [] h = refl
numerals_back (n ∷ ns) h =
    let parts = both_true (ltb n ten_digits) (all_below ten_digits ns) h in
    simp (number_numeral n (ltb-true n ten_digits parts.0), numerals_back ns parts.1)

-- a row's line, without its line feed
pub line_text : Row → List ℕ
line_text row = joined (op_name row.op) (columns_of row)

unfoldable pub line_of : Row → Line
line_of row = record { text = line_text row; ended = true }

pub numbers_line : (x : ℕ) (ys : List ℕ) → numbers_text x ys ≡ joined (number_text x) ys ++ feed ∷ []
unfolding numbers_text joined
numbers_line x [] = refl
numbers_line x (y ∷ ys) =
    ap (λ (t : List ℕ). number_text x ++ comma ∷ t) (numbers_line y ys)
    ∙ sym (append_assoc (number_text x) (comma ∷ joined (number_text y) ys) (feed ∷ []))

pub row_line : (row : Row) → row_text row ≡ line_text row ++ feed ∷ []
unfolding row_text line_text columns_of joined
row_line row =
    let rest : List ℕ = row.addr ∷ number_of row.value ∷ number_of row.old ∷ row.time ∷ row.version ∷ [] in
    ap (λ (t : List ℕ). op_name row.op ++ comma ∷ t) (numbers_line row.guard rest)
    ∙ sym (append_assoc (op_name row.op) (comma ∷ joined (number_text row.guard) rest) (feed ∷ []))

line_above : (row : Row) → above feed (line_text row) ≡ true
unfolding line_text
line_above row = joined_above (op_name row.op) (columns_of row) (name_above row.op)

-- the lines of printed rows are the rows' lines, whatever follows them
pub lines_of_rows : (rows : List Row) (rest : List ℕ) → lines_of (rows_text rows ++ rest) ≡ map line_of rows ++ lines_of rest
unfolding rows_text line_of
lines_of_rows [] rest = refl
lines_of_rows (row ∷ rows) rest =
    ap lines_of
    (append_assoc (row_text row) (rows_text rows) rest
    ∙ ap (λ (t : List ℕ). t ++ (rows_text rows ++ rest)) (row_line row)
    ∙ append_assoc (line_text row) (feed ∷ []) (rows_text rows ++ rest))
    ∙ line_first (line_text row) (rows_text rows ++ rest) (line_above row)
    ∙ ap (λ (ls : List Line). line_of row ∷ ls) (lines_of_rows rows rest)

-- a row that a line can hold: its op has a name, its contents are nothing but their numbers, and
-- its numbers are below q
pub record Printable (q : ℕ) (row : Row) : Type 0 where
  pub named : is_op row.op Other ≡ false
  pub small : all_below q (columns_of row) ≡ true
  pub single : SingleRow row

pub all_below_more : (q r : ℕ) (ns : List ℕ) → q ≤ r → all_below q ns ≡ true → all_below r ns ≡ true
unfolding all_below
all_below_more q r [] h e = refl
all_below_more q r (n ∷ ns) h e =
    let parts = both_true (ltb n q) (all_below q ns) e in
    let below : n < q = ltb-true n q parts.0 in
    simp (lt-ltb n r (omega arith), all_below_more q r ns h parts.1)

-- an op's name is that op's
name_back : (o : Op) → is_op o Other ≡ false → op_named (op_name o) ≡ o
unfolding op_named op_name same bytes is_op op_code
name_back Init e = refl
name_back Access e = refl
name_back Look e = refl
name_back Member e = refl
name_back Push e = refl
name_back Pop e = refl
name_back Enqueue e = refl
name_back Dequeue e = refl
name_back End e = refl
name_back Range e = refl
name_back Other e = let z : ◌≡◌ {A = ℕ} 0 1 = cc in absurd (omega arith)

-- a row's line holds at most 80 bytes
pub line_length : (row : Row) → all_below ten_digits (columns_of row) ≡ true → length (line_text row) ≤ 73
line_length row h =
    omega (arith, row_length row h, ap length (row_line row), length-append (line_text row) (feed ∷ []))

-- a line of a name and numbers reads as them
pub fields_back : (q : ℕ) (name ns : List ℕ) → q ≤ ten_digits → above comma name ≡ true → all_below q ns ≡ true → length (joined name ns) ≤ 80
    → fields_of q (suc (length ns)) (record { text = joined name ns; ended = true }) ≡ named name ns
unfolding fields_of readable fitting longest
fields_back q name ns h clear below short =
    let digits : all_below ten_digits ns ≡ true = all_below_more q ten_digits ns h below in
    simp (
      le-leb (length (joined name ns)) 80 short,
      joined_fields name ns clear,
      eq-eqb (suc (length (map number_text ns))) (suc (length ns)) (ap suc (length-map ns number_text)),
      numerals_back ns digits,
      numbers_back ns digits,
      below,
    )

-- a row's line reads as the row
pub row_round_trip : (q : ℕ) (row : Row) → q ≤ ten_digits → Printable q row → parse_row q (line_of row) ≡ Ok row
unfolding parse_row row_read row_with line_of line_text columns_of
row_round_trip q row h p =
    let digits : all_below ten_digits (columns_of row) ≡ true = all_below_more q ten_digits (columns_of row) h p.small in
    let read = fields_back q (op_name row.op) (columns_of row) h (name_above row.op) p.small (omega (arith, line_length row digits)) in
    ap row_read read
    ∙ (λ j. Ok (record {
      op = name_back row.op p.named j;
      guard = row.guard;
      addr = row.addr;
      value = p.single.0 j;
      old = p.single.1 j;
      time = row.time;
      version = row.version;
    }))

-- rows that lines can hold
abbrev pub AllPrintable : ℕ → List Row → Type 0
AllPrintable q [] = Unit {0}
AllPrintable q (row ∷ rows) = Printable q row × AllPrintable q rows

lines_back : (q : ℕ) (rows : List Row) → q ≤ ten_digits → AllPrintable q rows → map (parse_row q) (map line_of rows) ≡ map Ok rows
lines_back q [] h p = refl
lines_back q (row ∷ rows) h p =
    ap₂ (λ (x : Parsed) (xs : List Parsed). x ∷ xs) (row_round_trip q row h p.0) (lines_back q rows h p.1)

-- printed rows read back
pub rows_round_trip : (q : ℕ) (rows : List Row) → q ≤ ten_digits → AllPrintable q rows → map (parse_row q) (lines_of (rows_text rows)) ≡ map Ok rows
unfolding lines_of
rows_round_trip q rows h p =
    ap (map (parse_row q))
    (ap lines_of (sym (append-nil (rows_text rows))) ∙ lines_of_rows rows [] ∙ append-nil (map line_of rows))
    ∙ lines_back q rows h p
