-- Bytes to numbers and fields: the first paragraph of document 01, and its section "The file".
-- Assumes nothing.
use Rattle.std.specs.Prelude.{ℕ, ◌+◌, ◌-◌, ◌*◌, Bool, true, false, ◌&&◌, ◌||◌, not, cond, List, [], ◌∷◌, eqb, leb, ltb, length, get_or, drop}

-- a line of a file: its bytes before the line feed, and whether the line feed is there
pub record Line : Type 0 where
  pub text : List ℕ
  pub ended : Bool

-- "a line holds at most 80 bytes and then one line feed"
unfoldable pub longest : ℕ
longest = 80

unfoldable pub fitting : Line → Bool
fitting line = leb (length line.text) longest && line.ended

-- the bytes `,` and line feed
unfoldable pub comma : ℕ
comma = 44

unfoldable pub feed : ℕ
feed = 10

-- "compared byte for byte"
unfoldable pub same : List ℕ → List ℕ → Bool
same [] [] = true
same [] (y ∷ ys) = false
same (x ∷ xs) [] = false
same (x ∷ xs) (y ∷ ys) = eqb x y && same xs ys

-- the fields of a line: what stands between its commas
unfoldable pub onto : ℕ → List (List ℕ) → List (List ℕ)
onto b [] = (b ∷ []) ∷ []
onto b (f ∷ fs) = (b ∷ f) ∷ fs

unfoldable pub fields : List ℕ → List (List ℕ)
fields [] = [] ∷ []
fields (b ∷ bs) = cond (eqb b comma) ([] ∷ fields bs) (onto b (fields bs))

-- "Numbers are unsigned decimal": the bytes `0` and `9`, and those between
abbrev pub zero_byte : ℕ
zero_byte = 48

abbrev pub nine_byte : ℕ
nine_byte = 57

unfoldable pub digit : ℕ → Bool
digit b = leb zero_byte b && leb b nine_byte

unfoldable pub digits : List ℕ → Bool
digits [] = true
digits (b ∷ bs) = digit b && digits bs

-- the number that digits stand for, read from the left, after the number `n` of the digits before them
unfoldable pub decimal_from : ℕ → List ℕ → ℕ
decimal_from n [] = n
decimal_from n (b ∷ bs) = decimal_from (n * 10 + (b - zero_byte)) bs

-- 2: "a number empty, over 10 digits, with a leading zero (0 itself is fine) or not digits"
abbrev pub most_digits : ℕ
most_digits = 10

unfoldable pub numeral : List ℕ → Bool
numeral text =
    (leb 1 (length text) && leb (length text) most_digits) && (digits text && (eqb (length text) 1 || not (eqb (get_or text 0 0) zero_byte)))

-- the numbers of a list of fields, where each field is one
unfoldable pub numerals : List (List ℕ) → Bool
numerals [] = true
numerals (f ∷ fs) = numeral f && numerals fs

unfoldable pub numbers : List (List ℕ) → List ℕ
numbers [] = []
numbers (f ∷ fs) = decimal_from 0 f ∷ numbers fs

-- 3: "a number is p or more"
unfoldable pub all_below : ℕ → List ℕ → Bool
all_below q [] = true
all_below q (x ∷ xs) = ltb x q && all_below q xs

-- What a line of a name and numbers reads as: the name and the numbers, or its fault 2 or 3
pub data Fields : Type 0 where
  named : List ℕ → List ℕ → Fields
  no_fields : ℕ → Fields

-- whether a line has k fields: a name, and numbers. 2: "wrong number of fields, a number empty, over 10 digits, with a leading zero (0 itself is fine) or not digits,
-- line too long or without line feed"
unfoldable pub readable : ℕ → Line → Bool
readable k line =
    let fs = fields line.text in
    fitting line && (eqb (length fs) k && numerals (drop 1 fs))

-- what a line reads as that is to have k fields. "on one line, table order": 2 before 3, "a number is p or more"
unfoldable pub fields_of : ℕ → ℕ → Line → Fields
fields_of q k line =
    let fs = fields line.text in
    let ns = numbers (drop 1 fs) in
    cond (readable k line) (cond (all_below q ns) (named (get_or fs 0 []) ns) (no_fields 3)) (no_fields 2)

-- the lines of a file: each is ended by a line feed, but for a last one that the file breaks off
unfoldable pub before : ℕ → List Line → List Line
before b [] = record { text = b ∷ []; ended = false } ∷ []
before b (l ∷ ls) = record { text = b ∷ l.text; ended = l.ended } ∷ ls

unfoldable pub lines_of : List ℕ → List Line
lines_of [] = []
lines_of (b ∷ bs) = cond (eqb b feed) (record { text = []; ended = true } ∷ lines_of bs) (before b (lines_of bs))
