-- What a line of a name and numbers is taken apart to, with the key of the name in its place: 2 and 3 of section "The numbers" of document 01.
-- Assumes nothing.
use Rattle.std.specs.Prelude.{ℕ, suc, Bool, cond, Option, None, Some, Result, Ok, Err, List, [], get_or, drop}
use Rattle.memory.specs.declared.faults.Fault.{Fault}
use Rattle.memory.specs.Faults.{fault_number}
use Rattle.memory.specs.Bytes.{Line, Fields, named, no_fields, fields, numbers, all_below, readable}
use Rattle.keys.specs.Keys.{key_of}
use Rattle.fields.specs.declared.Found.{Found}

-- the key of the name, the numbers, and whether all of them are below q (3 where they are not); unread where the line meets 2
pub data Taken : Type 0 where
  taken : ℕ → List ℕ → Bool → Taken
  unread : Taken

-- what a line is taken apart to that is to have a name and k numbers
unfoldable pub fields_taken : ℕ → ℕ → Line → Taken
fields_taken q k line =
    let fs = fields line.text in
    let ns = numbers (drop 1 fs) in
    cond (readable (suc k) line) (taken (key_of (get_or fs 0 [])) ns (all_below q ns)) unread

-- what an answer says, with the numbers that it leaves in the slice lent to it; where it says that the line meets 2, those are free
unfoldable pub taken_of : List ℕ → Option Found → Taken
taken_of ns (Some found) = taken found.key ns found.below
taken_of ns None = unread

-- the fields of a line, with the key of the name in its place, or the line's fault
pub data Keyed : Type 0 where
  keyed : ℕ → List ℕ → Keyed
  faulty : ℕ → Keyed

unfoldable pub by_key : Fields → Keyed
by_key (named name ns) = keyed (key_of name) ns
by_key (no_fields f) = faulty f

-- what a key says, with the numbers in the slice; where there is a fault, those are free
unfoldable pub keyed_of : List ℕ → Result ℕ Fault → Keyed
keyed_of ns (Ok key) = keyed key ns
keyed_of ns (Err f) = faulty (fault_number f)
