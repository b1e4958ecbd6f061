-- One read into a buffer with kept bytes at its front: what holds of the answer, and of the buffer
-- afterwards. Free are the bytes that come, how many come of those that fit, where the input ends,
-- whether the read fails, and what stands in the buffer behind the kept bytes.
-- Of a reader whose bytes are known, `Brings` says which of them came.
-- Assumes nothing.
use Rattle.std.specs.Prelude.{ℕ, ◌+◌, ◌≤◌, ◌<◌, min, ◌≡◌, cond, List, [], eqb, length, take, slice_range, Option, None, Some, Result, Ok, Err}
use Rattle.std.specs.Io.KnownBytes.{Consumes, IsAtEnd, Keeps}
use Rattle.std.specs.declared.io.Error.{Error}
use Rattle.stdio.specs.declared.Failure.{Failure}
use Rattle.stdio.specs.declared.Failure.TheVariants.{NoRoom, Read}

-- 64 KiB
abbrev pub block : ℕ
block = 65536

-- What a read comes to: up to where the buffer is filled, or none at the end of input; or why it
-- failed
abbrev pub Outcome : Type 0
Outcome = Result (Option ℕ) Failure

-- what the reader's answer comes to, of a read that had room for so many bytes behind a position:
-- its error is a failed read, and no bytes are the end of input
abbrev pub read_of : Result ℕ Error → ℕ → ℕ → Outcome
read_of (Ok n) from room = Ok (cond (eqb (min n room) 0) None (Some (from + min n room)))
read_of (Err e) from room = Err (Read e)

-- the answers that a buffer of `size` bytes allows: one byte or more came, at most a block, and all
-- that came stand in the buffer; the end and a failed read, only where a byte had room; that there is
-- none, only where there is none; and no other failure
abbrev pub Answer : ℕ → ℕ → Outcome → Type 0
Answer size kept (Ok (Some end)) = (kept < end) × (end ≤ size) × (end ≤ kept + block)
Answer size kept (Ok None) = kept < size
Answer size kept (Err NoRoom) = size ≤ kept
Answer size kept (Err (Read e)) = kept < size
Answer size kept (Err _) = ⊥

-- the buffer is as long as it was, and its kept bytes are as they were
pub record ReadBehind (kept : ℕ) (before after : List ℕ) (r : Outcome) : Type 0 where
  pub answer : Answer (length before) kept r
  pub size : length after ≡ length before
  pub front : take kept after ≡ take kept before

-- of a reader whose bytes are known before and after: those that it gave stand behind the kept
-- bytes, up to where the buffer is filled; at the end it gave none and has none left; a failed read
-- takes none
abbrev pub Brings : ℕ → Option (List ℕ) → Option (List ℕ) → List ℕ → Outcome → Type 0
Brings kept old new after (Ok (Some end)) = Consumes old new (slice_range after kept end)
Brings kept old new after (Ok None) = Consumes old new [] × IsAtEnd new
Brings kept old new after (Err e) = Keeps old new
