-- What a line reads as, by the key of its name: a row line and the value line of a file.
-- Assumes nothing.
use Prim.Native.Nat.{ℕ, zero, suc, ◌≤◌}
use mathlib.Core.Path.{◌≡◌, refl, sym, ap, subst⁻¹, ◌∙◌}
use mathlib.Core.Bool.{Bool, true, false, cond}
use mathlib.Core.List.{List, [], ◌∷◌}
use native.Mathlib.Omega.{arith}
use lib.Dec.{eqb}
use lib.ListN.{get_or, drop}
use Rattle.memory.specs.declared.Memory.{Memory}
use Rattle.memory.specs.declared.Op.{Op}
use Rattle.memory.specs.Faults.{Parsed}
use Rattle.std.specs.Prelude.{Ok, Err}
use Rattle.memory.specs.Bytes.{Line, comma, fields, numbers, all_below, Fields, named, no_fields, readable, fields_of}
use Rattle.memory.specs.Names.{op_named, memory_named}
use Rattle.memory.specs.Rows.{limit, allowed, row_fields, row_with, row_read, parse_row}
use Rattle.memory.specs.File.{shut, value_fields, opened_by, values_read, parse_values}
use Rattle.keys.specs.Keys.{key_of, first, op_keyed, memory_keyed}
use Rattle.fields.specs.Keyed.{Keyed, keyed, faulty, by_key}
use Rattle.fields.proofs.Fields.{fields_first}
use Rattle.memory.proofs.Reached.{bounded_start}
use Rattle.keys.proofs.Keys.{Bytes, op_keyed_lem, memory_keyed_lem}

-- the first field of a text of bytes is a text of bytes
first_bytes : (bs : List ℕ) → Bytes bs → Bytes (first bs)
unfolding first
first_bytes [] are = are
first_bytes (b ∷ bs) are = by (eqb b comma) (first_bytes bs (λ i. are (suc i)))
  where
    by : (t : Bool) → Bytes (first bs) → Bytes (cond t [] (b ∷ first bs))
    by true rest i = omega arith
    by false rest zero = are 0
    by false rest (suc i) = rest i

-- the answer to a line, by what the key of its name stands for
unfoldable pub on_keyed : {A C : Type 0} → (ℕ → A) → (C → List ℕ → A) → (ℕ → C) → Keyed → A
on_keyed fault read known (keyed key ns) = read (known key) ns
on_keyed fault read known (faulty f) = fault f

-- is the answer to its fields, where the name itself stands for the same
module _ {A C : Type 0} (answer : Fields → A) (read : C → List ℕ → A) (known : List ℕ → C) (told : ℕ → C) where
  fields_keyed :
      (readable below : Bool) (name ns : List ℕ) → read (told (key_of name)) ns ≡ answer (named name ns)
      → on_keyed (λ f. answer (no_fields f)) read told (by_key (cond readable (cond below (named name ns) (no_fields 3)) (no_fields 2)))
      ≡ answer (cond readable (cond below (named name ns) (no_fields 3)) (no_fields 2))
  unfolding on_keyed by_key
  fields_keyed false below name ns reads = refl
  fields_keyed true false name ns reads = refl
  fields_keyed true true name ns reads = reads

  pub line_keyed :
      ((name ns : List ℕ) → read (known name) ns ≡ answer (named name ns)) → (q k : ℕ) (line : Line)
      → known (first line.text) ≡ told (key_of (first line.text)) → {found : Keyed} → found ≡ by_key (fields_of q k line)
      → on_keyed (λ f. answer (no_fields f)) read told found ≡ answer (fields_of q k line)
  unfolding fields_of
  line_keyed reads q k line agree is =
      ap (on_keyed (λ f. answer (no_fields f)) read told) is
      ∙ fields_keyed (readable k line) (all_below q ns) name ns (ap (λ (c : C). read c ns) (sym here) ∙ reads name ns)
    where
      name : List ℕ
      name = get_or (fields line.text) 0 []

      ns : List ℕ
      ns = numbers (drop 1 (fields line.text))

      here : known name ≡ told (key_of name)
      here = subst⁻¹ (λ (fs : List (List ℕ)). known (get_or fs 0 []) ≡ told (key_of (get_or fs 0 []))) (fields_first line.text) agree

-- an allowed size and count are at most 65,536
pub allowed_fits : (m : Memory) (n t : ℕ) → allowed m n t ≡ true → (n ≤ 65536) × (t ≤ 65536)
unfolding limit
allowed_fits m n t e = let b = bounded_start m n t e in (b.size, b.count)

module _ (line : Line) (are : Bytes line.text) where
  pub op_agrees : op_named (first line.text) ≡ op_keyed (key_of (first line.text))
  op_agrees = op_keyed_lem (first line.text) (first_bytes line.text are)

  pub memory_agrees : memory_named (first line.text) ≡ memory_keyed (key_of (first line.text))
  memory_agrees = memory_keyed_lem (first line.text) (first_bytes line.text are)

-- the answer of a row line, from what the name stands for and the numbers
unfoldable pub row_of : Op → List ℕ → Parsed
row_of o ns = Ok (row_with o ns)

module _ (q : ℕ) (line : Line) (are : Bytes line.text) where
  pub row_keyed : {found : Keyed} → found ≡ by_key (fields_of q row_fields line) → on_keyed Err row_of op_keyed found ≡ parse_row q line
  unfolding parse_row row_read row_of
  row_keyed is = line_keyed row_read row_of op_named op_keyed (λ name ns. refl) q row_fields line (op_agrees line are) is

  pub values_keyed : {found : Keyed} → found ≡ by_key (fields_of q value_fields line) → on_keyed shut opened_by memory_keyed found ≡ parse_values q line
  unfolding parse_values values_read
  values_keyed is = line_keyed values_read opened_by memory_named memory_keyed (λ name ns. refl) q value_fields line (memory_agrees line are) is
