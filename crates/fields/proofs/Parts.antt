-- What a line reads as, by what it is taken apart to: the key of its name and its numbers, or its fault 2 or 3.
-- Assumes nothing.
use Prim.Native.Nat.{ℕ, suc}
use mathlib.Core.Path.{◌≡◌, refl, sym, ap, ◌∙◌}
use mathlib.Core.Bool.{Bool, true, false, cond, not}
use mathlib.Core.List.{List, []}
use native.Mathlib.Omega.{arith}
use lib.ListN.{get_or, drop}
use Rattle.std.specs.Prelude.{Option, None, Some, Result, Ok, Err, ok_or}
use Rattle.memory.specs.declared.faults.Fault.{Fault}
use Rattle.memory.specs.declared.faults.Fault.TheVariants.{Unreadable, TooLarge}
use Rattle.memory.specs.Bytes.{Line, fields, numbers, all_below, named, no_fields, readable, fields_of}
use Rattle.keys.specs.Keys.{key_of}
use Rattle.fields.specs.declared.Found.{Found}
use Rattle.fields.specs.Keyed.{Taken, taken, unread, fields_taken, taken_of, Keyed, keyed, faulty, by_key, keyed_of}

-- 2, and 3 where a number is the modulus or more
unfoldable on_taken : Taken → Keyed
on_taken unread = faulty 2
on_taken (taken key ns below) = cond below (keyed key ns) (faulty 3)

fields_taken_lem :
    (readable below : Bool) (name ns : List ℕ)
    → on_taken (cond readable (taken (key_of name) ns below) unread) ≡ by_key (cond readable (cond below (named name ns) (no_fields 3)) (no_fields 2))
unfolding on_taken by_key
fields_taken_lem false below name ns = refl
fields_taken_lem true true name ns = refl
fields_taken_lem true false name ns = refl

taken_is_fields : (q k : ℕ) (line : Line) → on_taken (fields_taken q k line) ≡ by_key (fields_of q (suc k) line)
unfolding fields_taken fields_of
taken_is_fields q k line =
    let fs = fields line.text in
    let ns = numbers (drop 1 fs) in
    fields_taken_lem (readable (suc k) line) (all_below q ns) (get_or fs 0 []) ns

is_false : (t : Bool) → not t ≡ true → t ≡ false
is_false false e = refl
is_false true e = sym e

is_true : (t : Bool) → not t ≡ false → t ≡ true
is_true true e = refl
is_true false e = sym e

-- what an answer says, by whether there is one and by its test
module _ (q : ℕ) (ns : List ℕ) (k : ℕ) (line : Line) (found : Option Found) (says : taken_of ns found ≡ fields_taken q k line) where
  pub says_unread : found ≡ None → keyed_of ns (Err Unreadable) ≡ by_key (fields_of q (suc k) line)
  unfolding taken_of on_taken keyed_of
  says_unread e = ap on_taken (rw e at says) ∙ taken_is_fields q k line

  says_found : (f : Found) → found ≡ Some f → on_taken (taken f.key ns f.below) ≡ by_key (fields_of q (suc k) line)
  unfolding taken_of
  says_found f e = ap on_taken (rw e at says) ∙ taken_is_fields q k line

  module _ {r : Result Found Fault} (is : r ≡ ok_or found Unreadable) where
    pub says_none : {fault : Fault} → r ≡ Err fault → keyed_of ns (Err fault) ≡ by_key (fields_of q (suc k) line)
    says_none {fault} e = by found refl
      where
        by : (o : Option Found) → found ≡ o → keyed_of ns (Err fault) ≡ by_key (fields_of q (suc k) line)
        by None n = let same : Unreadable ≡ fault = cc in rw (← same) (says_unread n)
        by (Some f) n = absurd cc

    some : {f : Found} → r ≡ Ok f → found ≡ Some f
    some {f} e = grind arith

    pub says_large : {f : Found} → r ≡ Ok f → not f.below ≡ true → keyed_of ns (Err TooLarge) ≡ by_key (fields_of q (suc k) line)
    unfolding on_taken keyed_of
    says_large {f} e below = rw (is_false f.below below) at (says_found f (some e))

    pub says_key : {f : Found} → r ≡ Ok f → not f.below ≡ false → keyed_of ns (Ok f.key) ≡ by_key (fields_of q (suc k) line)
    unfolding on_taken keyed_of
    says_key {f} e below = rw (is_true f.below below) at (says_found f (some e))
