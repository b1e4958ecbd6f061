-- What is shown of the contracts' definitions: types only. First of every reader and writer, then
-- where their bytes are known. Each is proved in the file and by the name in brackets.
-- Assumes nothing.
use Rattle.std.specs.Prelude.{ℕ, ◌+◌, ◌≤◌, ◌<◌, ◌≡◌, List, [], ◌++◌, length, take, slice_range, None, Some, Ok, Err}
use Rattle.std.specs.declared.io.Error.{Error}
use Rattle.stdio.specs.declared.Failure.{Failure}
use Rattle.stdio.specs.declared.Failure.TheVariants.{NoRoom, Read, Endless, Short, Write}
use Rattle.stdio.specs.Read.{Outcome, Brings, ReadBehind}
use Rattle.stdio.specs.Write.{Takes, WriteFirst}

-- A read leaves the buffer as long as it was, and its kept bytes as they were. What it answers:
-- from one byte to 64 KiB came, and stand in the buffer; or none, and a byte had room; or nothing
-- was read, as no byte had room; or the read failed, and a byte had room. It fails in no other way.
-- (Known: read_answers)
abbrev pub ReadAnswers : Type 0
ReadAnswers =
    (kept : ℕ) (before after : List ℕ)
    → ((r : Outcome) → ReadBehind kept before after r → (length after ≡ length before) × (take kept after ≡ take kept before))
    × ((end : ℕ) → ReadBehind kept before after (Ok (Some end)) → (kept < end) × (end ≤ length before) × (end ≤ kept + 65536))
    × (ReadBehind kept before after (Ok None) → kept < length before)
    × (ReadBehind kept before after (Err NoRoom) → length before ≤ kept)
    × ((e : Error) → ReadBehind kept before after (Err (Read e)) → kept < length before)
    × (ReadBehind kept before after (Err Endless) → ⊥)
    × (ReadBehind kept before after (Err Short) → ⊥)
    × ((e : Error) → ReadBehind kept before after (Err (Write e)) → ⊥)

-- A write answers that it is whole or that it failed only of a text that has the bytes, and that
-- the text is too short only of one that has not. It fails in no other way.
-- (Known: write_answers)
abbrev pub WriteAnswers : Type 0
WriteAnswers =
    (size n : ℕ)
    → (WriteFirst size n (Ok tt) → n ≤ size)
    × ((e : Error) → WriteFirst size n (Err (Write e)) → n ≤ size)
    × (WriteFirst size n (Err Short) → size < n)
    × (WriteFirst size n (Err NoRoom) → ⊥)
    × ((e : Error) → WriteFirst size n (Err (Read e)) → ⊥)
    × (WriteFirst size n (Err Endless) → ⊥)

-- Of the bytes that a reader has left: those that came are the first of them, and stand behind the
-- kept ones, up to where the buffer is filled; at the end there were none; a failed read takes
-- none.
-- (Known: known_read)
abbrev pub KnownRead : Type 0
KnownRead =
    (kept : ℕ) (old new after : List ℕ)
    → ((end : ℕ) → Brings kept (Some old) (Some new) after (Ok (Some end)) → old ≡ slice_range after kept end ++ new)
    × (Brings kept (Some old) (Some new) after (Ok None) → (old ≡ []) × (new ≡ []))
    × ((e : Failure) → Brings kept (Some old) (Some new) after (Err e) → new ≡ old)

-- Of the bytes that a writer has: none more of a text that is too short; the first n of the text,
-- of a whole write; and of a failed one fewer of these, from their front. (Known: known_write)
abbrev pub KnownWrite : Type 0
KnownWrite =
    (n : ℕ) (old new text : List ℕ)
    → (Takes n (Some old) (Some new) text (Err Short) → new ≡ old)
    × (Takes n (Some old) (Some new) text (Ok tt) → new ≡ old ++ take n text)
    × ((e : Error) → Takes n (Some old) (Some new) text (Err (Write e))
    → (k : ℕ) × (k < length (take n text)) × (new ≡ old ++ take k (take n text)))
