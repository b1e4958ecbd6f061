-- Laws of a text in a slice: where it fits and where it is cut short, and of one text after
-- another.
-- Assumes nothing.
use Rattle.std.proofs.Common.{◌≡◌, ℕ, ◌+◌, ◌-◌, ◌≤◌, ◌<◌, List, ◌++◌, None, Some, length, take, drop, sym, ap, ap₂, ◌∙◌, append_assoc, arith}
use Rattle.std.proofs.lemmas.Grind.{common_steps}
use lib.Seq.{drop-drop, take-append-add}
use Rattle.text.specs.Put.{put_of, written}

-- a text that fits stands there whole
pub written_fits : (buf : List ℕ) (at : ℕ) (text : List ℕ) → at + length text ≤ length buf
    → written buf at text ≡ take at buf ++ text ++ drop (at + length text) buf
unfolding written
written_fits buf at text h = grind (arith, common_steps)

length_written : (buf : List ℕ) (at : ℕ) (s : List ℕ) → at + length s ≤ length buf → length (written buf at s) ≡ length buf
unfolding written
length_written buf at s h = grind (arith, common_steps)

-- the part before the end of a text that fits, and the part after it
take_written : (buf : List ℕ) (at : ℕ) (s : List ℕ) → at + length s ≤ length buf → take (at + length s) (written buf at s) ≡ take at buf ++ s
take_written buf at s h = grind (arith, common_steps, written_fits buf at s h)

drop_written : (buf : List ℕ) (at : ℕ) (s : List ℕ) → at + length s ≤ length buf
    → drop (at + length s) (written buf at s) ≡ drop (at + length s) buf
drop_written buf at s h = grind (arith, common_steps, written_fits buf at s h)

-- a text after another that fits
written_more : (buf : List ℕ) (at : ℕ) (s t : List ℕ) → at + length s ≤ length buf
    → written (written buf at s) (at + length s) t ≡ written buf at (s ++ t)
unfolding written
written_more buf at s t h =
    let n : ℕ = at + length s in
    let rest : drop (n + length t) (written buf at s) ≡ drop (n + length t) buf =
    sym (drop-drop (length t) n (written buf at s)) ∙ ap (drop (length t)) (drop_written buf at s h) ∙ drop-drop (length t) n buf
    in
    let left : length buf - at ≡ length s + (length buf - n) = omega arith in
    let end : at + length (s ++ t) ≡ n + length t = grind (arith, common_steps) in
    rw (take_written buf at s h, length_written buf at s h, rest, end, left, take-append-add s t (length buf - n)) (simp append_assoc)

-- a text that does not fit, before another
written_cut : (buf : List ℕ) (at : ℕ) (s t : List ℕ) → length buf < at + length s → written buf at s ≡ written buf at (s ++ t)
unfolding written
written_cut buf at s t h = grind (arith, common_steps)

-- an answer says whether the text fits
pub some_fits : (room at : ℕ) (s : List ℕ) {m : ℕ} → Some m ≡ put_of room at s → (at + length s ≤ room) × (m ≡ at + length s)
unfolding put_of
some_fits room at s {m} p = grind (arith, common_steps)

none_cut : (room at : ℕ) (s : List ℕ) → None ≡ put_of room at s → room < at + length s
unfolding put_of
none_cut room at s p = grind (arith, common_steps)

cut_none : (room at : ℕ) (s : List ℕ) → room < at + length s → None ≡ put_of room at s
unfolding put_of
cut_none room at s h = grind (arith, common_steps)

-- one text and then another are the two as one text: the answer and the slice, where the first one
-- fits, and where it does not
pub put_next : (buf : List ℕ) (start at : ℕ) (s t : List ℕ) → Some at ≡ put_of (length buf) start s
    → put_of (length (written buf start s)) at t ≡ put_of (length buf) start (s ++ t)
unfolding put_of
put_next buf start at s t e =
    let known : (start + length s ≤ length buf) × (at ≡ start + length s) = some_fits (length buf) start s e in
    grind (arith, common_steps, length_written buf start s known.0, known.1)

pub written_next : (buf : List ℕ) (start at : ℕ) (s t : List ℕ) → Some at ≡ put_of (length buf) start s
    → written (written buf start s) at t ≡ written buf start (s ++ t)
written_next buf start at s t e =
    let known : (start + length s ≤ length buf) × (at ≡ start + length s) = some_fits (length buf) start s e in
    rw known.1 (written_more buf start s t known.0)

pub put_none : (buf : List ℕ) (start : ℕ) (s t : List ℕ) → None ≡ put_of (length buf) start s → None ≡ put_of (length buf) start (s ++ t)
put_none buf start s t e = cut_none (length buf) start (s ++ t) (grind (arith, common_steps, none_cut (length buf) start s e))

pub written_none : (buf : List ℕ) (start : ℕ) (s t : List ℕ) → None ≡ put_of (length buf) start s → written buf start s ≡ written buf start (s ++ t)
written_none buf start s t e = written_cut buf start s t (none_cut (length buf) start s e)

pub ruleset puts = (put_next, written_next, put_none, written_none)

-- for a caller with room: a text put at the start of a slice is the slice's first bytes, and the
-- answer is its length
pub put_at_start : (room : ℕ) (text : List ℕ) → length text ≤ room → put_of room 0 text ≡ Some (length text)
unfolding put_of
put_at_start room text h = grind (arith, common_steps)

pub written_at_start : (buf text : List ℕ) → length text ≤ length buf → take (length text) (written buf 0 text) ≡ text
unfolding written
written_at_start buf text h = grind (arith, common_steps)

-- what is put at the start, up to where it ends, is the text
pub put_front : (before after text : List ℕ) (end : ℕ) → Some end ≡ put_of (length before) 0 text → after ≡ written before 0 text
    → take end after ≡ text
put_front before after text end put slice =
    let fits = some_fits (length before) 0 text put in
    let size : end ≡ length text = omega (arith, fits.1) in
    ap₂ (λ (n : ℕ) (l : List ℕ). take n l) size slice ∙ written_at_start before text (omega (arith, fits.0))
