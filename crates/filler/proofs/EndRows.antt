-- The end rows and range rows that the scratch words give, written one at a time, how many they are,
-- and that they are those that the part of the words gives which is lent.
-- Assumes nothing.
use Prim.Native.Nat.{ℕ, zero, suc, ◌+◌, ◌-◌, ◌*◌, ◌/◌, ◌≤◌, ◌<◌}
use native.Mathlib.Omega.{arith}
use native.Mathlib.Numerals.{add-one}
use mathlib.Core.Path.{◌≡◌, refl, sym, ap, ◌∙◌}
use mathlib.Core.List.{List, [], ◌∷◌, ◌++◌}
use lib.ListN.{length, get_or, take, drop, length-append, length-drop, drop_of_length-le}
use lib.Seq.{sets, get_or-take, get_or-drop, length-take-le}
use Rattle.memory.specs.declared.Memory.{Memory}
use Rattle.memory.specs.declared.Memory.TheVariants.{Ram, Rom, Set, Stack, Queue}
use Rattle.memory.specs.Names.{op_code}
use Rattle.runs.specs.Honest.{end_row, range_row}
use Rattle.runs.specs.Filler.{row_numbers}
use Rattle.filler.specs.declared.steps.Cursor.{Cursor}
use Rattle.words.specs.Inputs.{value_at}
use Rattle.words.specs.Cells.{time_in, content_in}
use Rattle.words.specs.Counts.{lookups_in}
use Rattle.index.specs.Values.{values_in}
use Rattle.layout.specs.Laid.{laid}
use Rattle.filler.specs.Ends.{cell_ends, value_ends, ranges, ending, EndingFits}
use Rattle.index.proofs.Values.{values_many}
use Rattle.filler.proofs.Inputs.{values_cons}
use Rattle.layout.proofs.Laid.{laid_none, laid_put}

-- the words of an end row and of a range row
end_words : (v o t n : ℕ) → ◌≡◌ {A = List ℕ} (8 ∷ 0 ∷ 0 ∷ v ∷ o ∷ t ∷ n ∷ []) (row_numbers (end_row v o t n ∷ []))
unfolding row_numbers end_row op_code
end_words v o t n = refl

range_words : (n : ℕ) → ◌≡◌ {A = List ℕ} (9 ∷ 0 ∷ 0 ∷ 0 ∷ 0 ∷ 0 ∷ n ∷ []) (row_numbers (range_row n ∷ []))
unfolding row_numbers range_row op_code
range_words n = refl

-- a number that is not reached yet is one more than what is left after the next turn
less_by_one : (c i : ℕ) → i < c → c - i ≡ suc (c - (i + 1))
less_by_one c i h = omega arith

one_later : (j i : ℕ) → suc (j + i) ≡ j + (i + 1)
one_later j i = omega arith

-- one row more is written
pub cells_turn : (inits ops : List ℕ) (j c i : ℕ) (s out out' : List ℕ) → i < c → 7 * c ≤ length out
    → out' ≡ sets out (7 * i) (8 ∷ 0 ∷ 0 ∷ 0 ∷ content_in inits ops (j + i) (get_or s (j + i) 0) ∷ time_in (get_or s (j + i) 0) ∷ 0 ∷ [])
    → laid out (7 * i) (cell_ends inits ops (j + i) (c - i) s) ≡ laid out' (7 * (i + 1)) (cell_ends inits ops (j + (i + 1)) (c - (i + 1)) s)
unfolding cell_ends
cells_turn inits ops j c i s out out' h room put =
    let content : ℕ = content_in inits ops (j + i) (get_or s (j + i) 0) in
    let time : ℕ = time_in (get_or s (j + i) 0) in
    ap (λ (n : ℕ). laid out (7 * i) (cell_ends inits ops (j + i) n s)) (less_by_one c i h)
    ∙ laid_put out i _ _ _ (end_words 0 content time 0) (omega arith)
    ∙ (λ x. laid (sym put x) (7 * (i + 1)) (cell_ends inits ops (one_later j i x) (c - (i + 1)) s))

pub ranges_turn : (c i : ℕ) (s out out' : List ℕ) → i < c → 7 * c ≤ length out
    → out' ≡ sets out (7 * i) (9 ∷ 0 ∷ 0 ∷ 0 ∷ 0 ∷ 0 ∷ get_or s i 0 ∷ [])
    → laid out (7 * i) (ranges i (c - i) s) ≡ laid out' (7 * (i + 1)) (ranges (i + 1) (c - (i + 1)) s)
unfolding ranges
ranges_turn c i s out out' h room put =
    ap (λ (n : ℕ). laid out (7 * i) (ranges i n s)) (less_by_one c i h)
    ∙ laid_put out i _ _ _ (range_words (get_or s i 0)) (omega arith)
    ∙ (λ x. laid (sym put x) (7 * (i + 1)) (ranges (sym (add-one i) x) (c - (i + 1)) s))

pub values_turn : (i : ℕ) (inits s out out' : List ℕ) → 4 * i + 4 ≤ length inits → 7 * i + 7 ≤ length out
    → out' ≡ sets out (7 * i) (8 ∷ 0 ∷ 0 ∷ value_at inits i ∷ 0 ∷ 0 ∷ lookups_in (get_or s i 0) ∷ [])
    → laid out (7 * i) (value_ends i (drop i (values_in inits)) s) ≡ laid out' (7 * (i + 1)) (value_ends (i + 1) (drop (i + 1) (values_in inits)) s)
unfolding value_ends
values_turn i inits s out out' h room put =
    ap (λ (vs : List ℕ). laid out (7 * i) (value_ends i vs s)) (values_cons inits i h)
    ∙ laid_put out i _ _ _ (end_words (value_at inits i) 0 0 (lookups_in (get_or s i 0))) room
    ∙ (λ x. laid (sym put x) (7 * (i + 1)) (value_ends (sym (add-one i) x) (drop (sym (add-one i) x) (values_in inits)) s))

-- and none is left
pub cells_done : (inits ops : List ℕ) (j c i : ℕ) (s out : List ℕ) → c ≤ i → laid out (7 * i) (cell_ends inits ops (j + i) (c - i) s) ≡ out
unfolding cell_ends
cells_done inits ops j c i s out h =
    let none : c - i ≡ 0 = omega arith in
    ap (λ (n : ℕ). laid out (7 * i) (cell_ends inits ops (j + i) n s)) none ∙ laid_none out (7 * i)

pub ranges_done : (c i : ℕ) (s out : List ℕ) → c ≤ i → laid out (7 * i) (ranges i (c - i) s) ≡ out
unfolding ranges
ranges_done c i s out h =
    let none : c - i ≡ 0 = omega arith in
    ap (λ (n : ℕ). laid out (7 * i) (ranges i n s)) none ∙ laid_none out (7 * i)

pub values_done : (i : ℕ) (inits s out : List ℕ) → length inits ≤ 4 * i → laid out (7 * i) (value_ends i (drop i (values_in inits)) s) ≡ out
unfolding value_ends
values_done i inits s out h =
    ap (λ (vs : List ℕ). laid out (7 * i) (value_ends i vs s)) (drop_of_length-le (values_in inits) {i = i} (omega (arith, values_many inits))) ∙ laid_none out (7 * i)

pub cells_count : (inits ops : List ℕ) (j c : ℕ) (s : List ℕ) → length (cell_ends inits ops j c s) ≡ c
unfolding cell_ends
cells_count inits ops j zero s = refl
cells_count inits ops j (suc c) s = ap suc (cells_count inits ops (suc j) c s)

pub ranges_count : (j t : ℕ) (s : List ℕ) → length (ranges j t s) ≡ t
unfolding ranges
ranges_count j zero s = refl
ranges_count j (suc t) s = ap suc (ranges_count (suc j) t s)

pub more_count : (inits ops : List ℕ) (j c w t : ℕ) (s : List ℕ) → length (cell_ends inits ops j c s ++ ranges w t s) ≡ length (cell_ends inits ops j c s) + t
more_count inits ops j c w t s = omega (arith, length-append (cell_ends inits ops j c s) (ranges w t s), ranges_count w t s)

pub values_ends_each : (j : ℕ) (vs s : List ℕ) → length (value_ends j vs s) ≡ length vs
unfolding value_ends
values_ends_each j [] s = refl
values_ends_each j (v ∷ vs) s = ap suc (values_ends_each (suc j) vs s)

pub values_ends_count : (inits s : List ℕ) → length (value_ends 0 (values_in inits) s) ≡ length inits / 4
values_ends_count inits s = values_ends_each 0 (values_in inits) s ∙ values_many inits

-- the rows by the part of the words that is lent
values_by_part : (w : ℕ) (s : List ℕ) (j : ℕ) (vs : List ℕ) → j + length vs ≤ w → value_ends j vs (take w s) ≡ value_ends j vs s
unfolding value_ends
values_by_part w s j [] h = refl
values_by_part w s j (v ∷ vs) h =
    λ x. end_row v 0 0 (lookups_in (get_or-take w s j 0 (omega arith) x)) ∷ values_by_part w s (suc j) vs (omega arith) x

pub values_lent : (w : ℕ) (inits s : List ℕ) → 4 * w ≡ length inits → value_ends 0 (values_in inits) (take w s) ≡ value_ends 0 (values_in inits) s
values_lent w inits s h = values_by_part w s 0 (values_in inits) (omega (arith, values_many inits))

ranges_by_part : (w t : ℕ) (s : List ℕ) (j c : ℕ) → j + c ≤ t → ranges j c (take t (drop w s)) ≡ ranges (w + j) c s
unfolding ranges
ranges_by_part w t s j zero h = refl
ranges_by_part w t s j (suc c) h =
    let later : w + suc j ≡ suc (w + j) = omega arith in
    let word : get_or (take t (drop w s)) j 0 ≡ get_or s (w + j) 0 = get_or-take t (drop w s) j 0 (omega arith) ∙ get_or-drop w s j 0 in
    let rest : ranges (suc j) c (take t (drop w s)) ≡ ranges (suc (w + j)) c s = ranges_by_part w t s (suc j) c (omega arith) ∙ ap (λ (k : ℕ). ranges k c s) later in
    λ x. range_row (word x) ∷ rest x

pub ranges_lent : (w t : ℕ) (s part : List ℕ) → w + t ≤ length s → part ≡ take (w + t - w) (drop w s) → ranges 0 (length part) part ≡ ranges w t s
ranges_lent w t s part h is =
    let long : length part ≡ t = omega (arith, ap length is, length-take-le (w + t - w) (drop w s) (omega (arith, length-drop w s)), length-drop w s) in
    let many : w + t - w ≡ t = omega arith in
    let first : w + 0 ≡ w = omega arith in
    ap (λ (c : ℕ). ranges 0 c part) long
    ∙ ap (λ (l : List ℕ). ranges 0 t l) (is ∙ ap (λ (c : ℕ). take c (drop w s)) many)
    ∙ ranges_by_part w t s 0 t (omega arith)
    ∙ ap (λ (k : ℕ). ranges k t s) first

-- the rows after the operations have room
pub ending_room : (m : Memory) (w t : ℕ) (at : Cursor) (inits ops s out : List ℕ) → EndingFits m w t at inits s out → 7 * length (ending m w t at inits ops s) ≤ length out
unfolding ending
ending_room Ram w t at inits ops s out f = omega (arith, more_count inits ops 0 w w t s, cells_count inits ops 0 w s, f.room)
ending_room Rom w t at inits ops s out f = omega (arith, values_ends_count inits s, f.count, f.room)
ending_room Set w t at inits ops s out f = omega (arith, values_ends_count inits s, f.count, f.room)
ending_room Stack w t at inits ops s out f = omega (arith, more_count inits ops 0 at.tail w t s, cells_count inits ops 0 at.tail s, f.room)
ending_room Queue w t at inits ops s out f = omega (arith, cells_count inits ops at.head (at.tail - at.head) s, f.within, f.room)
