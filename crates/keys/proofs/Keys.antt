-- Names are told apart by their keys.
-- Assumes nothing.
use Prim.Native.Nat.{ℕ, zero, suc, ◌+◌, ◌*◌, ◌^◌, ◌≤◌, ◌<◌}
use mathlib.Core.Path.{◌≡◌, refl, sym, ap, ap₂, ◌∙◌}
use mathlib.Core.Bool.{Bool, true, false, cond, true≢false}
use mathlib.Core.List.{List, [], ◌∷◌}
use native.Mathlib.Nat.{pow-suc, pow-le-pow_right, mul-le-mul_right, one-le-pow, zero-lt-suc}
use native.Mathlib.Omega.{arith}
use lib.Dec.{eqb, leb, ltb}
use lib.ListN.{length, get_or}
use lib.Pow.{are_bytes}
use borrow.Author.Tests.{ltb-true, ne_eqb, eqb-true, eqb-false}
use Rattle.memory.specs.declared.Memory.{Memory}
use Rattle.memory.specs.declared.Memory.TheVariants.{Ram, Rom, Set, Stack, Queue}
use Rattle.memory.specs.declared.Op.{Op}
use Rattle.memory.specs.declared.Op.TheVariants.{Init, Access, Look, Member, Push, Pop, Enqueue, Dequeue, End, Range, Other}
use Rattle.memory.specs.Text.{bytes}
use Rattle.memory.specs.Bytes.{same}
use Rattle.memory.specs.Names.{memory_name, op_name, memory_named, op_named}
use Rattle.memory.proofs.ReadRows.{both_pass}
use Rattle.memory.proofs.Same.{same_eq, same_refl}
use Rattle.keys.specs.Keys.{key_from, key_of, longest_name, op_keyed, memory_keyed}

-- every element is a byte
abbrev pub Bytes : List ℕ → Type 0
Bytes bs = (i : ℕ) → get_or bs i 0 < 256

-- a key with n bytes after it lies between its n-th power of 256 and the one of the next key
key_low : (key : ℕ) (bs : List ℕ) → key * 256 ^ length bs ≤ key_from key bs
unfolding key_from
key_low key [] = omega arith
key_low key (b ∷ bs) = rw (pow-suc 256 (length bs)) (omega (arith, key_low (key * 256 + b) bs))

key_high : (key : ℕ) (bs : List ℕ) → Bytes bs → key_from key bs < (key + 1) * 256 ^ length bs
unfolding key_from
key_high key [] are = omega arith
key_high key (b ∷ bs) are =
    rw (pow-suc 256 (length bs))
    (omega (arith, key_high (key * 256 + b) bs (λ i. are (suc i)), mul-le-mul_right {m = suc b} {n = 256} (256 ^ length bs) (are 0)))

-- so it tells how many bytes there are
key_length : (xs ys : List ℕ) → Bytes xs → Bytes ys → key_from 1 xs ≡ key_from 1 ys → length xs < length ys → ⊥
key_length xs ys are bytes e less =
    omega (
      arith,
      key_high 1 xs are,
      key_low 1 ys,
      pow-le-pow_right {n = 256} (zero-lt-suc 255) {i = suc (length xs)} {j = length ys} less,
      pow-suc 256 (length xs),
    )

-- and, of as many bytes, which they are
key_bytes :
    (xs ys : List ℕ) (a b : ℕ) → Bytes xs → Bytes ys → length xs ≡ length ys → key_from a xs ≡ key_from b ys → (a ≡ b) × (xs ≡ ys)
unfolding key_from
key_bytes [] [] a b are bytes long e = (e, refl)
key_bytes [] (y ∷ ys) a b are bytes long e = absurd (omega arith)
key_bytes (x ∷ xs) [] a b are bytes long e = absurd (omega arith)
key_bytes (x ∷ xs) (y ∷ ys) a b are bytes long e =
    let rest = key_bytes xs ys (a * 256 + x) (b * 256 + y) (λ i. are (suc i)) (λ i. bytes (suc i)) (omega arith) e in
    let ends : x ≡ y = omega (arith, rest.0, are 0, bytes 0) in
    (omega (arith, rest.0, are 0, bytes 0), ap₂ (λ (z : ℕ) (zs : List ℕ). z ∷ zs) ends rest.1)

-- equal keys are those of equal names
key_one : (xs ys : List ℕ) → Bytes xs → Bytes ys → key_from 1 xs ≡ key_from 1 ys → xs ≡ ys
key_one xs ys are bytes e = (key_bytes xs ys 1 1 are bytes long e).1
  where
    long : length xs ≡ length ys
    long = by (key_length xs ys are bytes e) (key_length ys xs bytes are (sym e))
      where
        by : (length xs < length ys → ⊥) → (length ys < length xs → ⊥) → length xs ≡ length ys
        by more less = omega arith

-- a comparison byte for byte is one of keys
same_key : (xs ys : List ℕ) → Bytes xs → Bytes ys → same xs ys ≡ eqb (key_from 1 xs) (key_from 1 ys)
same_key xs ys are bytes = by (same xs ys) refl (eqb (key_from 1 xs) (key_from 1 ys)) refl
  where
    by : (s : Bool) → same xs ys ≡ s → (k : Bool) → eqb (key_from 1 xs) (key_from 1 ys) ≡ k → s ≡ k
    by true is true e = refl
    by true is false e = absurd (eqb-false (key_from 1 xs) (key_from 1 ys) e (ap (key_from 1) (same_eq xs ys is)))
    by false is true e = sym is ∙ ap (same xs) (sym (key_one xs ys are bytes (eqb-true (key_from 1 xs) (key_from 1 ys) e))) ∙ same_refl xs
    by false is false e = refl

bytes_are : (bs : List ℕ) → are_bytes bs ≡ true → Bytes bs
bytes_are [] e i = omega arith
bytes_are (b ∷ bs) e zero = ltb-true b 256 (both_pass (ltb b 256) (are_bytes bs) e).0
bytes_are (b ∷ bs) e (suc i) = bytes_are bs (both_pass (ltb b 256) (are_bytes bs) e).1 i

-- a name of bytes that is no longer than the longest
pub record Short (name : List ℕ) : Type 0 where
  pub bytes : are_bytes name ≡ true
  pub short : leb (length name) longest_name ≡ true

-- a text is such a name where it has its key
pub same_named : (text name : List ℕ) → Bytes text → Short name → same text name ≡ eqb (key_of text) (key_of name)
unfolding key_of
same_named text name are short = rw short.short (by (leb (length text) longest_name) refl)
  where
    long : leb (length text) longest_name ≡ false → same text name ≡ true → ⊥
    long e is = true≢false (sym short.short ∙ ap (λ (bs : List ℕ). leb (length bs) longest_name) (sym (same_eq text name is)) ∙ e)

    unlike : (s : Bool) → same text name ≡ s → (same text name ≡ true → ⊥) → s ≡ eqb 0 (key_from 1 name)
    unlike true is never = absurd (never is)
    unlike false is never = sym (ne_eqb 0 (key_from 1 name) (λ e. omega (arith, key_low 1 name, one-le-pow (length name) 256 (zero-lt-suc 255))))

    by : (t : Bool) → leb (length text) longest_name ≡ t → same text name ≡ eqb (cond t (key_from 1 text) 0) (key_from 1 name)
    by true e = same_key text name are (bytes_are name short.bytes)
    by false e = unlike (same text name) refl (long e)

-- the names of the ops and of the memories are such
short_op : (o : Op) → Short (op_name o)
unfolding op_name longest_name bytes
short_op Init = record { bytes = refl; short = refl }
short_op Access = record { bytes = refl; short = refl }
short_op Look = record { bytes = refl; short = refl }
short_op Member = record { bytes = refl; short = refl }
short_op Push = record { bytes = refl; short = refl }
short_op Pop = record { bytes = refl; short = refl }
short_op Enqueue = record { bytes = refl; short = refl }
short_op Dequeue = record { bytes = refl; short = refl }
short_op End = record { bytes = refl; short = refl }
short_op Range = record { bytes = refl; short = refl }
short_op Other = record { bytes = refl; short = refl }

short_memory : (m : Memory) → Short (memory_name m)
unfolding memory_name longest_name bytes
short_memory Ram = record { bytes = refl; short = refl }
short_memory Rom = record { bytes = refl; short = refl }
short_memory Set = record { bytes = refl; short = refl }
short_memory Stack = record { bytes = refl; short = refl }
short_memory Queue = record { bytes = refl; short = refl }

-- so the key of a name decides which it is
pub op_keyed_lem : (text : List ℕ) → Bytes text → op_named text ≡ op_keyed (key_of text)
unfolding op_named op_keyed
op_keyed_lem text are =
    rw (
      is Init,
      is Access,
      is Look,
      is Member,
      is Push,
      is Pop,
      is Enqueue,
      is Dequeue,
      is End,
      is Range,
    )
  where
    is : (o : Op) → same text (op_name o) ≡ eqb (key_of text) (key_of (op_name o))
    is o = same_named text (op_name o) are (short_op o)

pub memory_keyed_lem : (text : List ℕ) → Bytes text → memory_named text ≡ memory_keyed (key_of text)
unfolding memory_named memory_keyed
memory_keyed_lem text are = rw (is Ram, is Rom, is Set, is Stack, is Queue)
  where
    is : (m : Memory) → same text (memory_name m) ≡ eqb (key_of text) (key_of (memory_name m))
    is m = same_named text (memory_name m) are (short_memory m)
