-- Reading a comma and a number, again and again, finds the fields of a line: its numbers, where each field is one and there are as many as are wanted.
-- Assumes nothing.
use Prim.Native.Nat.{ℕ, zero, suc, ◌+◌, ◌-◌, ◌≤◌, ◌<◌}
use mathlib.Core.Path.{◌≡◌, refl, sym, ap, ◌∙◌}
use mathlib.Core.Bool.{Bool, true, false, ◌&&◌, ◌||◌, not, cond, and-true, and-false, true≢false}
use Rattle.std.specs.Prelude.{Option, None, Some}
use mathlib.Core.List.{List, [], ◌∷◌, ◌++◌, append-nil}
use mathlib.Core.Logic.{⊎_elim}
use native.Mathlib.Nat.{eq-or-lt_of_le, sub-zero}
use native.Mathlib.Numerals.{add-one}
use native.Mathlib.Omega.{arith}
use lib.Dec.{eqb, leb, ltb, leb-zero, leb-suc-suc, leb-suc-zero, eqb-suc-suc}
use lib.ListN.{length, get_or, set, take, drop, length-set, length-drop}
use lib.Seq.{take_all, drop-cons, drop-drop, drop-length, take-suc-set}
use borrow.Author.Tests.{eq-eqb, ne_eqb, le-leb, lt-leb}
use Rattle.memory.specs.Bytes.{longest, fitting, comma, onto, fields, digit, digits, decimal_from, numeral, numerals, numbers, all_below, readable}
use Rattle.keys.specs.declared.Name.{Name}
use Rattle.decimal.specs.declared.Number.{Number}
use Rattle.keys.specs.Keys.{key_of, first, name_of}
use Rattle.decimal.specs.Numbers.{run, most, digits_of, number_of, number_from}
use Rattle.decimal.proofs.Numbers.{run_within}
use Rattle.keys.proofs.Names.{first_within}
use Rattle.fields.specs.Keyed.{Taken, taken, unread, fields_taken}
use Rattle.fields.proofs.Elements.{below_append}

abbrev is_nil : List ℕ → Bool
is_nil [] = true
is_nil (b ∷ bs) = false

-- a field begins with the bytes before the first comma
pub fields_first : (bs : List ℕ) → fields bs ≡ first bs ∷ drop 1 (fields bs)
unfolding fields first onto
fields_first [] = refl
fields_first (b ∷ bs) = by (eqb b comma) (fields_first bs)
  where
    by : (t : Bool) → fields bs ≡ first bs ∷ drop 1 (fields bs)
        → cond t ([] ∷ fields bs) (onto b (fields bs)) ≡ cond t [] (b ∷ first bs) ∷ drop 1 (cond t ([] ∷ fields bs) (onto b (fields bs)))
    by true rest = refl
    by false rest = rw rest

-- a digit is no comma
digit_uncomma : (b : ℕ) → digit b ≡ true → eqb b comma ≡ false
unfolding digit comma
digit_uncomma b is = ne_eqb b 44 (λ e. absurd (true≢false (sym is ∙ ap (λ (x : ℕ). leb 48 x && leb x 57) e)))

-- the text after a run of digits
abbrev past : ℕ → List ℕ → List ℕ
past k bs = drop (length (run k bs)) bs

-- a run of digits is the beginning of the first field
fields_run : (k : ℕ) (bs : List ℕ) → fields bs ≡ (run k bs ++ first (past k bs)) ∷ drop 1 (fields (past k bs))
unfolding run fields onto
fields_run zero bs = fields_first bs
fields_run (suc k) [] = fields_first []
fields_run (suc k) (b ∷ bs) = by (digit b) refl (fields_run k bs)
  where
    by : (t : Bool) → digit b ≡ t → fields bs ≡ (run k bs ++ first (past k bs)) ∷ drop 1 (fields (past k bs))
        → fields (b ∷ bs)
        ≡ (cond t (b ∷ run k bs) [] ++ first (drop (length (cond t (b ∷ run k bs) [])) (b ∷ bs)))
        ∷ drop 1 (fields (drop (length (cond t (b ∷ run k bs) [])) (b ∷ bs)))
    by true is rest = rw (digit_uncomma b is, rest)
    by false other rest = fields_first (b ∷ bs)

-- and the whole of it, if the field is made of digits, k at most
run_rest :
    (k : ℕ) (bs : List ℕ)
    → (digits (run k bs ++ first (past k bs)) && leb (length (run k bs ++ first (past k bs))) k) ≡ is_nil (first (past k bs))
unfolding run digits first
run_rest zero bs = by (first bs)
  where
    by : (field : List ℕ) → (digits field && leb (length field) 0) ≡ is_nil field
    by [] = refl
    by (b ∷ field) = rw (leb-suc-zero (length field), and-false)
run_rest (suc k) [] = leb-zero (suc k)
run_rest (suc k) (b ∷ bs) = by (digit b) refl (run_rest k bs)
  where
    ended : (t : Bool) → digit b ≡ false
        → (digits (cond t [] (b ∷ first bs)) && leb (length (cond t [] (b ∷ first bs))) (suc k)) ≡ is_nil (cond t [] (b ∷ first bs))
    ended true other = leb-zero (suc k)
    ended false other = rw other

    by : (t : Bool) → digit b ≡ t
        → (digits (run k bs ++ first (past k bs)) && leb (length (run k bs ++ first (past k bs))) k) ≡ is_nil (first (past k bs))
        → (digits (cond t (b ∷ run k bs) [] ++ first (drop (length (cond t (b ∷ run k bs) [])) (b ∷ bs)))
        && leb (length (cond t (b ∷ run k bs) [] ++ first (drop (length (cond t (b ∷ run k bs) [])) (b ∷ bs)))) (suc k))
        ≡ is_nil (first (drop (length (cond t (b ∷ run k bs) [])) (b ∷ bs)))
    by true is rest = rw (is, leb-suc-suc) rest
    by false other rest = ended (eqb b comma) other

-- too many digits, or another byte among them
spoilt : (Some few all rest : Bool) → (all && few) ≡ false → ((Some && few) && (all && rest)) ≡ false
spoilt true true true rest e = absurd (true≢false e)
spoilt true true false rest e = refl
spoilt true false all rest e = refl
spoilt false few all rest e = refl

-- so the field is a numeral where the run is one, and is the field
numeral_first : (bs : List ℕ) → numeral (run most bs ++ first (past most bs)) ≡ (numeral (run most bs) && is_nil (first (past most bs)))
unfolding numeral most
numeral_first bs = by (first (past most bs)) (run_rest most bs)
  where
    by : (field : List ℕ) → (digits (run most bs ++ field) && leb (length (run most bs ++ field)) most) ≡ is_nil field
        → numeral (run most bs ++ field) ≡ (numeral (run most bs) && is_nil field)
    by [] e = rw (append-nil (run most bs), and-true)
    by (b ∷ field) e =
        spoilt
        (leb 1 (length (run most bs ++ b ∷ field)))
        (leb (length (run most bs ++ b ∷ field)) most)
        (digits (run most bs ++ b ∷ field))
        (eqb (length (run most bs ++ b ∷ field)) 1 || not (eqb (get_or (run most bs ++ b ∷ field) 0 0) 48))
        e
        ∙ sym (and-false (numeral (run most bs)))

-- Reading k numbers, each after a comma, from a position on, and then the end of the text
unfoldable pub prepend : ℕ → Option (List ℕ) → Option (List ℕ)
prepend v None = None
prepend v (Some vs) = Some (v ∷ vs)

unfoldable pub read_on : Option Number → (ℕ → Option (List ℕ)) → Option (List ℕ)
read_on (Some n) rest = prepend n.value (rest n.next)
read_on None rest = None

unfoldable pub read_from : ℕ → List ℕ → ℕ → Option (List ℕ)
read_from zero text at = cond (eqb at (length text)) (Some []) None
read_from (suc k) text at = read_on (number_from at (drop at text)) (λ next. read_from k text next)

-- the numbers of the fields after the first, where there are k of them and the first is empty
unfoldable numbers_of : ℕ → List (List ℕ) → Option (List ℕ)
numbers_of k fs =
    cond (is_nil (get_or fs 0 []) && (eqb (length fs) (suc k) && numerals (drop 1 fs))) (Some (numbers (drop 1 fs))) None

-- at the end of the text there is one field, which is empty
numbers_end : numbers_of 0 (fields []) ≡ Some []
unfolding numbers_of fields numerals numbers
numbers_end = refl

numbers_missing : (k : ℕ) → numbers_of (suc k) (fields []) ≡ None
unfolding numbers_of fields numerals numbers
numbers_missing k = rw (ne_eqb 1 (suc (suc k)) (omega arith))

-- at a comma there are two or more
numbers_surplus : (b : ℕ) (bs : List ℕ) → eqb b comma ≡ true → numbers_of 0 (fields (b ∷ bs)) ≡ None
unfolding numbers_of fields
numbers_surplus b bs is = rw (is, fields_first bs, ne_eqb (suc (suc (length (drop 1 (fields bs))))) 1 (omega arith))

-- at another byte the first is not empty
numbers_astray : (k b : ℕ) (bs : List ℕ) → eqb b comma ≡ false → numbers_of k (fields (b ∷ bs)) ≡ None
unfolding numbers_of fields onto
numbers_astray k b bs other = rw (other, fields_first bs)

-- a number is put before those that are read after it
prepend_cond : (t : Bool) (v : ℕ) (vs : List ℕ) → cond t (Some (v ∷ vs)) None ≡ prepend v (cond t (Some vs) None)
unfolding prepend
prepend_cond true v vs = refl
prepend_cond false v vs = refl

-- the first field after a comma: a run of digits, and what is left of the field
number_step :
    (numbered : Bool) (k next : ℕ) (ds field : List ℕ) (fs : List (List ℕ))
    → cond (eqb (suc (suc (length fs))) (suc (suc k)) && ((numbered && is_nil field) && numerals fs)) (Some (decimal_from 0 (ds ++ field) ∷ numbers fs)) None
    ≡ read_on (cond numbered (Some (record { value = decimal_from 0 ds; next = next })) None)
    (λ next. cond (is_nil field && (eqb (suc (length fs)) (suc k) && numerals fs)) (Some (numbers fs)) None)
unfolding read_on prepend
number_step false k next ds field fs = rw and-false
number_step true k next ds [] fs = rw (append-nil ds, eqb-suc-suc (suc (length fs)) (suc k)) (prepend_cond (eqb (suc (length fs)) (suc k) && numerals fs) (decimal_from 0 ds) (numbers fs))
number_step true k next ds (b ∷ field) fs = rw and-false

-- after a comma the first number is read, and then those after it
numbers_comma :
    (k b from : ℕ) (bs : List ℕ) → eqb b comma ≡ true
    → numbers_of (suc k) (fields (b ∷ bs)) ≡ read_on (number_of from (run most bs)) (λ next. numbers_of k (fields (past most bs)))
unfolding numbers_of fields numerals numbers number_of digits_of
numbers_comma k b from bs is =
    rw (is, fields_run most bs, numeral_first bs, fields_first (past most bs))
    (number_step
    (numeral (run most bs))
    k
    (from + length (run most bs))
    (run most bs)
    (first (past most bs))
    (drop 1 (fields (past most bs))))

-- at the end of the text
read_end : (k : ℕ) (text : List ℕ) → read_from k text (length text) ≡ numbers_of k (fields (drop (length text) text))
unfolding read_from read_on number_from
read_end zero text = rw (drop-length text, eq-eqb (length text) (length text) refl) (sym numbers_end)
read_end (suc k) text = rw (drop-length text) (sym (numbers_missing k))

-- before it, where a last field is wanted
read_surplus : (text : List ℕ) (at : ℕ) → at < length text → read_from 0 text at ≡ numbers_of 0 (fields (drop at text))
unfolding read_from
read_surplus text at inside =
    rw (drop-cons text at 0 inside, ne_eqb at (length text) (omega arith)) (by (eqb (get_or text at 0) comma) refl)
  where
    by : (t : Bool) → eqb (get_or text at 0) comma ≡ t → None ≡ numbers_of 0 (fields (get_or text at 0 ∷ drop (suc at) text))
    by true is = sym (numbers_surplus (get_or text at 0) (drop (suc at) text) is)
    by false other = sym (numbers_astray 0 (get_or text at 0) (drop (suc at) text) other)

-- before it, where a number is wanted, and those after it read as they should
module _ (k : ℕ) (text : List ℕ) (rest : (at : ℕ) → at ≤ length text → read_from k text at ≡ numbers_of k (fields (drop at text))) where
  read_rest :
      (at : ℕ) → at < length text
      → read_on (number_of (at + 1) (run most (drop (suc at) text))) (λ next. read_from k text next)
      ≡ read_on (number_of (at + 1) (run most (drop (suc at) text))) (λ next. numbers_of k (fields (past most (drop (suc at) text))))
  unfolding number_of digits_of read_on
  read_rest at inside = by (numeral ds)
    where
      ds : List ℕ
      ds = run most (drop (suc at) text)

      next : ℕ
      next = at + 1 + length ds

      here : drop next text ≡ past most (drop (suc at) text)
      here = rw (add-one at) (sym (drop-drop (length ds) (suc at) text))

      by : (t : Bool)
          → read_on (cond t (Some (record { value = decimal_from 0 ds; next = next })) None) (λ next. read_from k text next)
          ≡ read_on (cond t (Some (record { value = decimal_from 0 ds; next = next })) None) (λ next. numbers_of k (fields (past most (drop (suc at) text))))
      by true = ap (prepend (decimal_from 0 ds)) (rest next (omega (arith, run_within most (drop (suc at) text), length-drop (suc at) text)) ∙ ap (λ (bs : List ℕ). numbers_of k (fields bs)) here)
      by false = refl

  read_number : (at : ℕ) → at < length text → read_from (suc k) text at ≡ numbers_of (suc k) (fields (drop at text))
  unfolding read_from number_from read_on
  read_number at inside = rw (drop-cons text at 0 inside) (by (eqb (get_or text at 0) comma) refl)
    where
      by : (t : Bool) → eqb (get_or text at 0) comma ≡ t
          → read_on (cond t (number_of (at + 1) (run most (drop (suc at) text))) None) (λ next. read_from k text next)
          ≡ numbers_of (suc k) (fields (get_or text at 0 ∷ drop (suc at) text))
      by true is = read_rest at inside ∙ sym (numbers_comma k (get_or text at 0) (at + 1) (drop (suc at) text) is)
      by false other = sym (numbers_astray (suc k) (get_or text at 0) (drop (suc at) text) other)

-- Reading is what the fields from there on say
read_fields : (k : ℕ) (text : List ℕ) (at : ℕ) → at ≤ length text → read_from k text at ≡ numbers_of k (fields (drop at text))
read_fields zero text at inside =
    ⊎_elim (λ e. rw e (read_end 0 text)) (λ before. read_surplus text at before) (eq-or-lt_of_le inside)
read_fields (suc k) text at inside =
    ⊎_elim
    (λ e. rw e (read_end (suc k) text))
    (λ before. read_number k text (read_fields k text) at before)
    (eq-or-lt_of_le inside)

-- the text after the first field has the other fields, after an empty one
fields_past_first : (bs : List ℕ) → fields (drop (length (first bs)) bs) ≡ [] ∷ drop 1 (fields bs)
unfolding first fields onto
fields_past_first [] = refl
fields_past_first (b ∷ bs) = by (eqb b comma) refl (fields_past_first bs)
  where
    by : (t : Bool) → eqb b comma ≡ t → fields (drop (length (first bs)) bs) ≡ [] ∷ drop 1 (fields bs)
        → fields (drop (length (cond t [] (b ∷ first bs))) (b ∷ bs)) ≡ [] ∷ drop 1 (cond t ([] ∷ fields bs) (onto b (fields bs)))
    by true is rest = rw is
    by false other rest = rest ∙ rw (fields_first bs)

-- what is read after the numbers vs
unfoldable pub prepends : List ℕ → Option (List ℕ) → Option (List ℕ)
prepends [] rest = rest
prepends (v ∷ vs) rest = prepend v (prepends vs rest)

prepends_more : (vs : List ℕ) (v : ℕ) (rest : Option (List ℕ)) → prepends vs (prepend v rest) ≡ prepends (vs ++ v ∷ []) rest
unfolding prepends
prepends_more [] v rest = refl
prepends_more (w ∷ vs) v rest = ap (prepend w) (prepends_more vs v rest)

prepends_none : (vs : List ℕ) → prepends vs None ≡ None
unfolding prepends prepend
prepends_none [] = refl
prepends_none (v ∷ vs) = rw (prepends_none vs)

prepends_some : (vs ws : List ℕ) → prepends vs (Some ws) ≡ Some (vs ++ ws)
unfolding prepends prepend
prepends_some [] ws = refl
prepends_some (v ∷ vs) ws = rw (prepends_some vs ws)

-- the numbers that are read after the name, with its key
unfoldable taken_with : ℕ → ℕ → Option (List ℕ) → Taken
taken_with q key None = unread
taken_with q key (Some ns) = taken key ns (all_below q ns)

taken_cond : (q : ℕ) (test : Bool) (key : ℕ) (ns : List ℕ) → cond test (taken key ns (all_below q ns)) unread ≡ taken_with q key (cond test (Some ns) None)
unfolding taken_with
taken_cond q true key ns = refl
taken_cond q false key ns = refl

-- are what the line is taken apart to, if it fits
line_is :
    (q total : ℕ) (text : List ℕ) (ended : Bool) (read : Option (List ℕ))
    → length text ≤ 80 → ended ≡ true → read_from total text (length (first text)) ≡ read
    → taken_with q (key_of (first text)) read ≡ fields_taken q total (record { text = text; ended = ended })
unfolding fields_taken readable fitting longest numbers_of
line_is q total text ended read fits is reads =
    rw (
      sym reads,
      read_fields total text (length (first text)) (first_within text),
      fields_past_first text,
      le-leb (length text) 80 fits,
      is,
      fields_first text,
    )
    (sym
    (taken_cond q
    (eqb (suc (length (drop 1 (fields text)))) (suc total) && numerals (drop 1 (fields text)))
    (key_of (first text))
    (numbers (drop 1 (fields text)))))

-- A line that fits is being read: of `total` numbers the first i stand in ns, it is known whether
-- one of them is the modulus or more, and the others are read from a position on
pub record Reading (q total : ℕ) (text : List ℕ) (ended : Bool) (ns : List ℕ) (i at : ℕ) (below : Bool) : Type 0 where
  pub fits : length text ≤ 80
  pub whole : ended ≡ true
  pub many : length ns ≡ total
  pub inside : i ≤ total
  pub reads : read_from total text (length (first text)) ≡ prepends (take i ns) (read_from (total - i) text at)
  pub small : below ≡ all_below q (take i ns)

pub reading_begins :
    {text : List ℕ} {ended : Bool} {name : Name} (q : ℕ) (ns : List ℕ)
    → length text ≤ 80 → ended ≡ true → name ≡ name_of (first text) → Reading q (length ns) text ended ns 0 name.next true
unfolding prepends name_of all_below
reading_begins {text} q ns fits whole is =
    record {
      fits = fits;
      whole = whole;
      many = refl;
      inside = omega arith;
      reads = rw (sub-zero (length ns)) (ap (λ (n : Name). read_from (length ns) text n.next) (sym is));
      small = refl;
    }

module _ {q total : ℕ} {text : List ℕ} {ended : Bool} {ns : List ℕ} {i at : ℕ} {below : Bool} (reading : Reading q total text ended ns i at below) where
  -- one of the numbers that are left is read
  reading_next : i < total → read_from total text (length (first text)) ≡ prepends (take i ns) (read_from (suc (total - (i + 1))) text at)
  reading_next left = reading.reads ∙ ap (λ (k : ℕ). prepends (take i ns) (read_from k text at)) (omega arith)

  module _ (left : i < total) {found : Option Number} (is : found ≡ number_from at (drop at text)) where
    pub reading_goes : {n : Number} → found ≡ Some n → Reading q total text ended (set ns i n.value) (i + 1) n.next (below && ltb n.value q)
    unfolding read_from read_on
    reading_goes {n} goes =
        record {
          fits = reading.fits;
          whole = reading.whole;
          many = length-set ns i n.value ∙ reading.many;
          inside = omega arith;
          reads =
              reading_next left
              ∙ ap (λ (m : Option Number). prepends (take i ns) (read_on m (λ m. read_from (total - (i + 1)) text m))) (sym is ∙ goes)
              ∙ prepends_more (take i ns) n.value (read_from (total - (i + 1)) text n.next)
              ∙ rw (add-one i, take-suc-set ns i n.value (omega arith));
          small = rw (add-one i, take-suc-set ns i n.value (omega arith)) (ap (λ (t : Bool). t && ltb n.value q) reading.small ∙ sym (below_append q (take i ns) n.value));
        }

    -- or is none
    pub reading_fails : found ≡ None → unread ≡ fields_taken q total (record { text = text; ended = ended })
    unfolding read_from read_on taken_with
    reading_fails fails =
        line_is q total text ended None reading.fits reading.whole
        (reading_next left
        ∙ ap (λ (m : Option Number). prepends (take i ns) (read_on m (λ m. read_from (total - (i + 1)) text m))) (sym is ∙ fails)
        ∙ prepends_none (take i ns))

  -- none is left
  reading_last : total ≤ i → read_from total text (length (first text)) ≡ prepends ns (read_from 0 text at)
  reading_last over =
      reading.reads
      ∙ ap (λ (k : ℕ). prepends (take i ns) (read_from k text at)) (omega arith)
      ∙ ap (λ (vs : List ℕ). prepends vs (read_from 0 text at)) (take_all i ns (omega arith))

  -- of all of them, whether one is q or more
  reading_small : total ≤ i → below ≡ all_below q ns
  reading_small over = reading.small ∙ ap (all_below q) (take_all i ns (omega arith))

  -- and the last number ends the line, or does not
  pub reading_ends : total ≤ i → {name : Name} → name ≡ name_of (first text) → at ≡ length text → taken name.key ns below ≡ fields_taken q total (record { text = text; ended = ended })
  unfolding read_from taken_with name_of
  reading_ends over named ends =
      ap (λ (n : Name). taken n.key ns below) named
      ∙ ap (taken (name_of (first text)).key ns) (reading_small over)
      ∙ line_is q total text ended (Some ns) reading.fits reading.whole
      (reading_last over ∙ rw (eq-eqb at (length text) ends) (prepends_some ns [] ∙ ap Some (append-nil ns)))

  pub reading_over : total ≤ i → (at ≡ length text → ⊥) → unread ≡ fields_taken q total (record { text = text; ended = ended })
  unfolding read_from taken_with
  reading_over over more =
      line_is q total text ended None reading.fits reading.whole
      (reading_last over ∙ rw (ne_eqb at (length text) more) (prepends_none ns))

-- a line that does not fit is taken apart to none
module _ (q total : ℕ) (text : List ℕ) (ended : Bool) where
  pub line_long : 80 < length text → unread ≡ fields_taken q total (record { text = text; ended = ended })
  unfolding fields_taken readable fitting longest
  line_long long = rw (lt-leb (length text) 80 long)

  pub line_broken : ended ≡ false → unread ≡ fields_taken q total (record { text = text; ended = ended })
  unfolding fields_taken readable fitting longest
  line_broken is = rw (is, and-false)
