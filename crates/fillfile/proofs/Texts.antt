-- The names line and the rows of the output, put into a slice one after the other.
-- Assumes nothing.
use Rattle.std.proofs.Common.{◌≡◌, ℕ, zero, suc, ◌+◌, ◌-◌, ◌≤◌, List, [], ◌∷◌, ◌++◌, Option, Some, None, length, refl, sym, ap, ◌∙◌, subst, append_assoc, append-nil, add-one, arith}
use Rattle.memory.specs.declared.Row.{Row}
use Rattle.memory.specs.Bytes.{feed}
use Rattle.memory.specs.Names.{row_names}
use Rattle.memory.specs.Print.{row_text, rows_text, filled_text}
use Rattle.text.specs.Put.{put_of, written}
use Rattle.text.proofs.Written.{put_next, written_next, put_none, written_none}
use Rattle.print.specs.Rows.{row_in}
use Rattle.fillfile.specs.Ending.{output_rows}

-- what a function did that put a text: its answer, and the slice afterwards
abbrev pub Putting : List ℕ → ℕ → List ℕ → Option ℕ → List ℕ → Type 0
Putting buf at s r after = (r ≡ put_of (length buf) at s) × (after ≡ written buf at s)

-- the same text, written otherwise
pub put_text : {s t : List ℕ} (buf : List ℕ) (at : ℕ) {r : Option ℕ} {after : List ℕ} → s ≡ t → Putting buf at s r after → Putting buf at t r after
put_text buf at {r} {after} e put = subst (λ (t : List ℕ). Putting buf at t r after) e put

-- one text more after one that fitted, and after one that did not
pub put_more : (buf : List ℕ) (at : ℕ) (s t : List ℕ) {r : Option ℕ} {mid after : List ℕ} → Putting buf 0 s (Some at) mid → Putting mid at t r after → Putting buf 0 (s ++ t) r after
put_more buf at s t {r} {mid} {after} first second = (
  second.0 ∙ ap (λ (m : List ℕ). put_of (length m) at t) first.1 ∙ put_next buf 0 at s t first.0,
  second.1 ∙ ap (λ (m : List ℕ). written m at t) first.1 ∙ written_next buf 0 at s t first.0,
)

pub put_cut : (buf s rest : List ℕ) {t after : List ℕ} → s ++ rest ≡ t → Putting buf 0 s None after → Putting buf 0 t None after
put_cut buf s rest e put = put_text buf 0 e (put_none buf 0 s rest put.0, put.1 ∙ written_none buf 0 s rest put.0)

rows_text_append : (xs ys : List Row) → rows_text (xs ++ ys) ≡ rows_text xs ++ rows_text ys
unfolding rows_text
rows_text_append [] ys = refl
rows_text_append (x ∷ xs) ys = ap (λ (l : List ℕ). row_text x ++ l) (rows_text_append xs ys) ∙ sym (append_assoc (row_text x) (rows_text xs) (rows_text ys))

filled_append : (xs ys : List Row) → filled_text (xs ++ ys) ≡ filled_text xs ++ rows_text ys
unfolding filled_text
filled_append xs ys = rw rows_text_append (sym (append_assoc row_names (feed ∷ rows_text xs) (rows_text ys)))

-- no row
pub filled_none : (out : List ℕ) → row_names ++ feed ∷ [] ≡ filled_text (output_rows 0 out)
unfolding filled_text rows_text output_rows
filled_none out = refl

-- one row more
pub filled_more : (out : List ℕ) (k : ℕ) → filled_text (output_rows k out) ++ row_text (row_in out k) ≡ filled_text (output_rows (k + 1) out)
unfolding rows_text output_rows
filled_more out k =
    ap (λ (l : List ℕ). filled_text (output_rows k out) ++ l) (sym (append-nil (row_text (row_in out k))))
    ∙ sym (filled_append (output_rows k out) (row_in out k ∷ []))
    ∙ ap (λ (n : ℕ). filled_text (output_rows n out)) (sym (add-one k))

-- the rows after the first k
filled_after : (out : List ℕ) (k d : ℕ) → (rest : List ℕ) × (filled_text (output_rows k out) ++ rest ≡ filled_text (output_rows (k + d) out))
filled_after out k zero =
    let none : k ≡ k + 0 = omega arith in ([], append-nil (filled_text (output_rows k out)) ∙ ap (λ (n : ℕ). filled_text (output_rows n out)) none)
filled_after out k (suc d) =
    let rest = filled_after out k d in
    let more : k + d + 1 ≡ k + suc d = omega arith in (
      rest.0 ++ row_text (row_in out (k + d)),
      sym (append_assoc (filled_text (output_rows k out)) rest.0 (row_text (row_in out (k + d))))
          ∙ ap (λ (l : List ℕ). l ++ row_text (row_in out (k + d))) rest.1
          ∙ filled_more out (k + d)
          ∙ ap (λ (n : ℕ). filled_text (output_rows n out)) more,
    )

pub filled_rest : (out : List ℕ) (k count : ℕ) → k ≤ count → (rest : List ℕ) × (filled_text (output_rows k out) ++ rest ≡ filled_text (output_rows count out))
filled_rest out k count h =
    let rest = filled_after out k (count - k) in
    let all : k + (count - k) ≡ count = omega arith in
    (rest.0, rest.1 ∙ ap (λ (n : ℕ). filled_text (output_rows n out)) all)
