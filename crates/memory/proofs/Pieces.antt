-- Lines read from bytes that come in pieces: pieces may be cut anywhere, and where a line reads the same from what is kept of it, reading the bytes is
-- reading their lines. The bytes that are kept may be read again in front of those that follow.
-- Assumes nothing.
use Prim.Native.Nat.{ℕ, zero, suc, ◌≤◌}
use native.Mathlib.Omega.{arith}
use mathlib.Core.Path.{◌≡◌, refl, sym, ◌∙◌, ap}
use mathlib.Core.Bool.{Bool, true, false, cond, and-eq-true_iff}
use mathlib.Core.List.{List, [], ◌∷◌, ◌++◌}
use lib.Dec.{eqb, leb}
use lib.ListN.{length, take, length-take, length-append}
use lib.Seq.{take_all, take-append-le}
use borrow.Author.Tests.{leb-true, leb-false, lt-leb}
use Rattle.memory.specs.Bytes.{Line, longest, feed, same, before, lines_of}
use Rattle.memory.specs.File.{names_fault}
use Rattle.memory.specs.Pieces.{cut, Piece, piece, byte_in, bytes_in, last_in, end_in}

-- the line of a text
abbrev pub line_with : List ℕ → Bool → Line
line_with text ended = record { text = text; ended = ended }

take_take_append : (n : ℕ) (xs ys : List ℕ) → take n (take n xs ++ ys) ≡ take n (xs ++ ys)
take_take_append zero xs ys = refl
take_take_append (suc n) [] ys = refl
take_take_append (suc n) (x ∷ xs) ys = ap {B = List ℕ} (λ t. x ∷ t) (take_take_append n xs ys)

-- cutting what is kept and one byte more is cutting the whole text and that byte
cut_grows : (xs ys : List ℕ) → cut (cut xs ++ ys) ≡ cut (xs ++ ys)
unfolding cut
cut_grows xs ys = take_take_append (suc longest) xs ys

-- a text that fits is kept whole, and one that does not is cut to a length that does not fit either
cut_fits : (text : List ℕ) → leb (length text) longest ≡ true → cut text ≡ text
unfolding cut longest
cut_fits text e = take_all (suc longest) text (omega (arith, leb-true (length text) 80 e))

cut_too_long : (text : List ℕ) → leb (length text) longest ≡ false → leb (length (cut text)) longest ≡ false
unfolding cut longest
cut_too_long text e = lt-leb (length (take 81 text)) 80 (omega (arith, length-take 81 text, leb-false (length text) 80 e))

-- a reader of lines that gives all texts that do not fit one answer reads a line from what is kept of it
pub cut_reads : {A : Type 0} (read : Line → A) (answer : A)
    → ((text : List ℕ) (ended : Bool) → leb (length text) longest ≡ false → read (line_with text ended) ≡ answer) → (text : List ℕ) (ended : Bool)
    → read (line_with (cut text) ended) ≡ read (line_with text ended)
cut_reads read answer long text ended = go (leb (length text) longest) refl
  where
    go : (b : Bool) → leb (length text) longest ≡ b → read (line_with (cut text) ended) ≡ read (line_with text ended)
    go true e = ap (λ (t : List ℕ). read (line_with t ended)) (cut_fits text e)
    go false e = long (cut text) ended (cut_too_long text e) ∙ sym (long text ended e)

same_length : (xs ys : List ℕ) → same xs ys ≡ true → length xs ≡ length ys
unfolding same
same_length [] [] e = refl
same_length [] (y ∷ ys) e = let z : ◌≡◌ {A = ℕ} 0 1 = cc in omega arith
same_length (x ∷ xs) [] e = let z : ◌≡◌ {A = ℕ} 0 1 = cc in omega arith
same_length (x ∷ xs) (y ∷ ys) e = ap suc (same_length xs ys ((and-eq-true_iff (eqb x y) (same xs ys)).0 e).1)

-- a text that does not fit is no shorter text
long_not_same : (text names : List ℕ) → leb (length text) longest ≡ false → length names ≤ longest → same text names ≡ false
unfolding longest
long_not_same text names e h = go (same text names) refl
  where
    go : (b : Bool) → same text names ≡ b → same text names ≡ false
    go true s = absurd (let l = same_length text names s in let g = leb-false (length text) 80 e in omega arith)
    go false s = s

-- so a names line is read from what is kept of it
pub cut_names : (names : List ℕ) → length names ≤ longest → (text : List ℕ) (ended : Bool)
    → names_fault names (line_with (cut text) ended) ≡ names_fault names (line_with text ended)
unfolding names_fault
cut_names names h text ended = cut_reads (names_fault names) 1 (λ t e l. rw (long_not_same t names l h) refl) text ended

-- The lines of a text without a line feed and bytes that follow it
unfoldable last_of : List ℕ → List Line
last_of [] = []
last_of (b ∷ bs) = line_with (b ∷ bs) false ∷ []

unfoldable lines_from : List ℕ → List ℕ → List Line
lines_from text [] = last_of text
lines_from text (b ∷ bs) = cond (eqb b feed) (line_with text true ∷ lines_from [] bs) (lines_from (text ++ b ∷ []) bs)

-- lines after a text: the text goes before the first of them
unfoldable before_all : List ℕ → List Line → List Line
before_all [] lines = lines
before_all (b ∷ bs) lines = before b (before_all bs lines)

before_none : (text : List ℕ) → before_all text [] ≡ last_of text
unfolding before_all last_of before
before_none [] = refl
before_none (b ∷ []) = refl
before_none (b ∷ c ∷ bs) = ap (before b) (before_none (c ∷ bs))

before_feed : (text : List ℕ) (lines : List Line) → before_all text (line_with [] true ∷ lines) ≡ line_with text true ∷ lines
unfolding before_all before
before_feed [] lines = refl
before_feed (b ∷ bs) lines = ap (before b) (before_feed bs lines)

before_snoc : (text : List ℕ) (b : ℕ) (lines : List Line) → before_all (text ++ b ∷ []) lines ≡ before_all text (before b lines)
unfolding before_all
before_snoc [] b lines = refl
before_snoc (x ∷ xs) b lines = ap (before x) (before_snoc xs b lines)

-- the lines of a text and the bytes after it are the lines of those bytes, with the text before the first of them
lines_from_lem : (text bytes : List ℕ) → lines_from text bytes ≡ before_all text (lines_of bytes)
unfolding lines_from lines_of before_all
lines_from_lem text [] = sym (before_none text)
lines_from_lem text (b ∷ bs) = go (eqb b feed) (lines_from_lem [] bs) (lines_from_lem (text ++ b ∷ []) bs)
  where
    go : (x : Bool) → lines_from [] bs ≡ lines_of bs → lines_from (text ++ b ∷ []) bs ≡ before_all (text ++ b ∷ []) (lines_of bs)
        → cond x (line_with text true ∷ lines_from [] bs) (lines_from (text ++ b ∷ []) bs)
        ≡ before_all text (cond x (line_with [] true ∷ lines_of bs) (before b (lines_of bs)))
    go true fed kept = ap {B = List Line} (λ ls. line_with text true ∷ ls) fed ∙ sym (before_feed text (lines_of bs))
    go false fed kept = kept ∙ before_snoc text b (lines_of bs)

-- Lines, one after the other
unfoldable pub lines_in : {S : Type 0} → (S → Line → S) → S → List Line → S
lines_in line s [] = s
lines_in line s (l ∷ ls) = lines_in line (line s l) ls

module _ {S : Type 0} (line : S → Line → S) where
  -- pieces may be cut anywhere
  pub pieces_cut : (v : Piece S) (xs ys : List ℕ) → bytes_in line v (xs ++ ys) ≡ bytes_in line (bytes_in line v xs) ys
  unfolding bytes_in
  pieces_cut v [] ys = refl
  pieces_cut v (x ∷ xs) ys = pieces_cut (byte_in line v x) xs ys

  -- A piece from which its kept bytes can be read again, as where they stand in front of the bytes that follow
  pub record Settled (v : Piece S) : Type 0 where
    pub short : length v.pending ≤ suc longest
    pub again : bytes_in line (piece v.known []) v.pending ≡ v

  -- between two lines nothing is kept
  pub settled_line : (s : S) → Settled (piece s [])
  unfolding bytes_in piece
  settled_line s = record { short = omega arith; again = refl }

  -- the bytes that follow may be read with the kept ones in front of them
  pub read_again : (v : Piece S) (bs : List ℕ) → Settled v → bytes_in line (piece v.known []) (v.pending ++ bs) ≡ bytes_in line v bs
  read_again v bs h = pieces_cut (piece v.known []) v.pending bs ∙ ap (λ (w : Piece S). bytes_in line w bs) h.again

  -- a line feed ends the line
  byte_ends : (v : Piece S) (b : ℕ) → eqb b feed ≡ true → byte_in line v b ≡ piece (line v.known (line_with v.pending true)) []
  unfolding byte_in
  byte_ends v b e = rw e refl

  -- a byte that is kept, and one that comes after as many as show that the line is too long
  byte_added : (v : Piece S) (b : ℕ) → eqb b feed ≡ false → leb (length v.pending) longest ≡ true → byte_in line v b ≡ piece v.known (v.pending ++ b ∷ [])
  unfolding byte_in cut longest
  byte_added v b e l =
      rw e
      (ap (piece v.known)
      (take_all 81 (v.pending ++ b ∷ []) (omega (arith, length-append v.pending (b ∷ []), leb-true (length v.pending) 80 l))))

  byte_passed : (v : Piece S) (b : ℕ) → eqb b feed ≡ false → leb (length v.pending) longest ≡ false → length v.pending ≤ suc longest → byte_in line v b ≡ v
  unfolding byte_in cut longest piece
  byte_passed v b e l h =
      let full = leb-false (length v.pending) 80 l in
      rw e (ap (piece v.known) (take-append-le 81 v.pending (b ∷ []) full ∙ take_all 81 v.pending h))

  settled_kept : (v : Piece S) (b : ℕ) → Settled v → eqb b feed ≡ false → Settled (byte_in line v b)
  unfolding longest piece bytes_in
  settled_kept v b h e = go (leb (length v.pending) longest) refl
    where
      go : (x : Bool) → leb (length v.pending) longest ≡ x → Settled (byte_in line v b)
      go true l =
          let added = byte_added v b e l in
          rw added
          (record {
            short = omega (arith, length-append v.pending (b ∷ []), leb-true (length v.pending) 80 l);
            again = read_again v (b ∷ []) h ∙ added;
          })
      go false l = rw (byte_passed v b e l h.short) h

  settled_byte : (v : Piece S) (b : ℕ) → Settled v → Settled (byte_in line v b)
  settled_byte v b h = go (eqb b feed) refl
    where
      go : (x : Bool) → eqb b feed ≡ x → Settled (byte_in line v b)
      go true e = rw (byte_ends v b e) (settled_line (line v.known (line_with v.pending true)))
      go false e = settled_kept v b h e

  pub settled_bytes : (v : Piece S) (bs : List ℕ) → Settled v → Settled (bytes_in line v bs)
  unfolding bytes_in
  settled_bytes v [] h = h
  settled_bytes v (b ∷ bs) h = settled_bytes (byte_in line v b) bs (settled_byte v b h)

  -- a byte that is no line feed is kept in the cut
  pub byte_kept : (s : S) (text : List ℕ) (b : ℕ) → eqb b feed ≡ false → byte_in line (piece s (cut text)) b ≡ piece s (cut (text ++ b ∷ []))
  unfolding byte_in piece cut
  byte_kept s text b e = rw e (ap (piece s) (cut_grows text (b ∷ [])))

-- Where a line reads the same from what is kept of it
module _ {S : Type 0} (line : S → Line → S)
    (kept : (s : S) (text : List ℕ) (ended : Bool) → line s (line_with (cut text) ended) ≡ line s (line_with text ended))
  where
    -- a line feed ends the line, of which only the cut is kept
    pub byte_feeds : (s : S) (text : List ℕ) (b : ℕ) → eqb b feed ≡ true → byte_in line (piece s (cut text)) b ≡ piece (line s (line_with text true)) []
    unfolding byte_in piece
    byte_feeds s text b e = rw e (ap (λ (r : S). piece r []) (kept s text true))

    -- the end of input, from what is kept of the last line
    pub last_cut : (s : S) (text : List ℕ) → last_in line s (cut text) ≡ last_in line s text
    unfolding last_in cut longest
    last_cut s [] = refl
    last_cut s (b ∷ bs) = kept s (b ∷ bs) false

    -- reading bytes and ending is reading their lines
    bytes_are_lines : (s : S) (text bytes : List ℕ) → end_in line (bytes_in line (piece s (cut text)) bytes) ≡ lines_in line s (lines_from text bytes)
    unfolding bytes_in lines_from last_of lines_in end_in last_in piece cut
    bytes_are_lines s [] [] = last_cut s []
    bytes_are_lines s (t ∷ ts) [] = last_cut s (t ∷ ts)
    bytes_are_lines s text (b ∷ bs) = go (eqb b feed) refl (bytes_are_lines (line s (line_with text true)) [] bs) (bytes_are_lines s (text ++ b ∷ []) bs)
      where
        go : (x : Bool) → eqb b feed ≡ x
            → end_in line (bytes_in line (piece (line s (line_with text true)) (cut [])) bs) ≡ lines_in line (line s (line_with text true)) (lines_from [] bs)
            → end_in line (bytes_in line (piece s (cut (text ++ b ∷ []))) bs) ≡ lines_in line s (lines_from (text ++ b ∷ []) bs)
            → end_in line (bytes_in line (byte_in line (piece s (cut text)) b) bs)
            ≡ lines_in line s (cond x (line_with text true ∷ lines_from [] bs) (lines_from (text ++ b ∷ []) bs))
        go true e fed more = rw (byte_feeds s text b e) fed
        go false e fed more = rw (byte_kept line s text b e) more

    pub pieces_are_lines : (s : S) (bytes : List ℕ) → end_in line (bytes_in line (piece s []) bytes) ≡ lines_in line s (lines_of bytes)
    unfolding cut longest before_all
    pieces_are_lines s bytes = bytes_are_lines s [] bytes ∙ ap (lines_in line s) (lines_from_lem [] bytes)
