-- Rows written into an output: what `laid` comes to.
--     laid_none       no rows leave the output as it was
--     laid_put        the first of the rows is written by `put`, and the others are left
--     laid_append     rows, and then others after them
--     laid_part       rows from a word on are rows of the part from there on
--     laid_length     the output keeps its length
--     part_lent, part_back    the part from a word on, as it is lent and as it comes back
--     laid_lent       rows written into the part from a word on
--     laid_handed_on    rows, and then others, written into the part after them
-- Assumes nothing.
use Prim.Native.Nat.{ℕ, ◌+◌, ◌-◌, ◌*◌, ◌≤◌}
use native.Mathlib.Omega.{arith}
use native.Mathlib.Nat.{add-zero, zero-add}
use mathlib.Core.Path.{◌≡◌, refl, sym, ap, ◌∙◌}
use mathlib.Core.List.{List, [], ◌∷◌, ◌++◌, append_assoc, append-nil}
use lib.ListN.{length, take, drop, length-append, length-drop, take-append-drop, drop_of_length-le}
use lib.Seq.{sets, sets-eq, length-take-le, take_all, take_at, drop-append-add, drop-drop}
use Rattle.memory.specs.declared.Row.{Row}
use Rattle.runs.specs.Filler.{row_numbers}
use Rattle.layout.specs.Laid.{laid}

rows_length : (rows : List Row) → length (row_numbers rows) ≡ 7 * length rows
unfolding row_numbers
rows_length [] = refl
rows_length (row ∷ rows) = let ih = rows_length rows in omega arith

rows_append : (xs ys : List Row) → row_numbers (xs ++ ys) ≡ row_numbers xs ++ row_numbers ys
unfolding row_numbers
rows_append [] ys = refl
rows_append (x ∷ xs) ys = ap (λ (r : List ℕ). row_numbers (x ∷ []) ++ r) (rows_append xs ys)

pub laid_none : (out : List ℕ) (a : ℕ) → laid out a [] ≡ out
unfolding laid row_numbers
laid_none out a = ap (λ (k : ℕ). take a out ++ drop k out) (add-zero a) ∙ take-append-drop a out

-- drop past a front of known length
drop_past : (front back : List ℕ) (n m : ℕ) → n ≡ length front + m → drop n (front ++ back) ≡ drop m back
drop_past front back n m e = ap (λ (k : ℕ). drop k (front ++ back)) e ∙ drop-append-add front back m

laid_append : (out : List ℕ) (a : ℕ) (xs ys : List Row) → a + 7 * length xs ≤ length out → laid out a (xs ++ ys) ≡ laid (laid out a xs) (a + 7 * length xs) ys
unfolding laid
laid_append out a xs ys h =
    let X : List ℕ = row_numbers xs in
    let Y : List ℕ = row_numbers ys in
    let lx : length X ≡ 7 * length xs = rows_length xs in
    let front : List ℕ = take a out ++ X in
    let lt : length (take a out) ≡ a = length-take-le a out (omega arith) in
    let lf : length front ≡ a + 7 * length xs = omega (arith, length-append (take a out) X) in
    let tail : List ℕ = drop (a + length X) out in
    let regroup : take a out ++ (X ++ tail) ≡ front ++ tail = sym (append_assoc (take a out) X tail) in
    let kept : take (a + 7 * length xs) (front ++ tail) ≡ front = take_at front tail (a + 7 * length xs) lf in
    let both : a + length X + length Y ≡ a + length (X ++ Y) = omega (arith, length-append X Y) in
    let past : drop (a + 7 * length xs + length Y) (front ++ tail) ≡ drop (a + length (X ++ Y)) out =
    drop_past front tail (a + 7 * length xs + length Y) (length Y) (omega arith)
    ∙ drop-drop (length Y) (a + length X) out
    ∙ ap (λ (k : ℕ). drop k out) both in
    ap (λ (R : List ℕ). take a out ++ (R ++ drop (a + length R) out)) (rows_append xs ys)
    ∙ ap (λ (r : List ℕ). take a out ++ r) (append_assoc X Y (drop (a + length (X ++ Y)) out))
    ∙ sym (append_assoc (take a out) X (Y ++ drop (a + length (X ++ Y)) out))
    ∙ sym
    (ap (λ (l : List ℕ). take (a + 7 * length xs) l ++ (Y ++ drop (a + 7 * length xs + length Y) l)) regroup
    ∙ ap (λ (l : List ℕ). l ++ (Y ++ drop (a + 7 * length xs + length Y) (front ++ tail))) kept
    ∙ ap (λ (l : List ℕ). front ++ (Y ++ l)) past)

laid_length : (out : List ℕ) (a : ℕ) (rows : List Row) → a + 7 * length rows ≤ length out → length (laid out a rows) ≡ length out
unfolding laid
laid_length out a rows h =
    let R : List ℕ = row_numbers rows in
    let lr : length R ≡ 7 * length rows = rows_length rows in
    let lt : length (take a out) ≡ a = length-take-le a out (omega arith) in
    omega (arith, length-append (take a out) (R ++ drop (a + length R) out), length-append R (drop (a + length R) out), length-drop (a + length R) out)

-- one row is a run of stores
laid_one : (out : List ℕ) (a : ℕ) (row : Row) → a + 7 ≤ length out → sets out a (row_numbers (row ∷ [])) ≡ laid out a (row ∷ [])
unfolding laid
laid_one out a row h =
    let R : List ℕ = row_numbers (row ∷ []) in
    let lr : length R ≡ 7 = rows_length (row ∷ []) in
    sets-eq R out a (omega arith) ∙ append_assoc (take a out) R (drop (a + length R) out)

pub laid_put : (out : List ℕ) (k : ℕ) (row : Row) (rest : List Row) (ws : List ℕ) → ws ≡ row_numbers (row ∷ []) → 7 * k + 7 ≤ length out
    → laid out (7 * k) (row ∷ rest) ≡ laid (sets out (7 * k) ws) (7 * (k + 1)) rest
laid_put out k row rest ws e h =
    let next : 7 * k + 7 * length (row ∷ []) ≡ 7 * (k + 1) = omega arith in
    laid_append out (7 * k) (row ∷ []) rest (omega arith)
    ∙ ap (λ (l : List ℕ). laid l (7 * k + 7 * length (row ∷ [])) rest) (sym (laid_one out (7 * k) row h) ∙ ap (sets out (7 * k)) (sym e))
    ∙ ap (λ (a : ℕ). laid (sets out (7 * k) ws) a rest) next

laid_part : (out : List ℕ) (a : ℕ) (rows : List Row) → laid out a rows ≡ take a out ++ laid (drop a out) 0 rows
unfolding laid
laid_part out a rows =
    let R : List ℕ = row_numbers rows in
    ap (λ (l : List ℕ). take a out ++ (R ++ l))
    (sym (ap (λ (k : ℕ). drop k (drop a out)) (zero-add (length R)) ∙ drop-drop (length R) a out))

pub part_lent : (out : List ℕ) (a : ℕ) → take (length out - a) (drop a out) ≡ drop a out
part_lent out a = take_all (length out - a) (drop a out) (omega (arith, length-drop a out))

part_back : (out part : List ℕ) (a : ℕ) → a ≤ length out → take a out ++ (part ++ drop (length out - a) (drop a out)) ≡ take a out ++ part
part_back out part a h =
    ap (λ (l : List ℕ). take a out ++ (part ++ l)) (drop_of_length-le (drop a out) {i = length out - a} (omega (arith, length-drop a out)))
    ∙ ap (λ (l : List ℕ). take a out ++ l) (append-nil part)

pub laid_lent : (xs ys : List ℕ) (a : ℕ) (rows : List Row) → a ≤ length xs → ys ≡ laid (take (length xs - a) (drop a xs)) 0 rows
    → take a xs ++ (ys ++ drop (length xs - a) (drop a xs)) ≡ laid xs a rows
laid_lent xs ys a rows fits lent =
    part_back xs ys a fits
    ∙ ap (λ (l : List ℕ). take a xs ++ l) (lent ∙ ap (λ (l : List ℕ). laid l 0 rows) (part_lent xs a))
    ∙ sym (laid_part xs a rows)

pub laid_handed_on : (out xs ys : List ℕ) (a : ℕ) (first more : List Row) → xs ≡ laid out 0 first → a ≡ 7 * length first → a ≤ length out
    → ys ≡ laid (take (length xs - a) (drop a xs)) 0 more
    → take a xs ++ (ys ++ drop (length xs - a) (drop a xs)) ≡ laid out 0 (first ++ more)
laid_handed_on out xs ys a first more e at fits lent =
    let long : length xs ≡ length out = ap length e ∙ laid_length out 0 first (omega arith) in
    let next : a ≡ 0 + 7 * length first = omega arith in
    laid_lent xs ys a more (omega arith) lent
    ∙ ap (λ (l : List ℕ). laid l a more) e
    ∙ ap (λ (k : ℕ). laid (laid out 0 first) k more) next
    ∙ sym (laid_append out 0 first more (omega arith))
