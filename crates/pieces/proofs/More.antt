-- One call, which is handed a buffer that is filled up to an end behind the kept bytes.
-- Assumes nothing.
use Rattle.std.proofs.Common.{◌≡◌, ℕ, ◌+◌, ◌-◌, ◌≤◌, List, [], ◌++◌, take, slice_range, ap, sym, ◌∙◌, arith}
use lib.Seq.{take-add}
use Rattle.memory.specs.Bytes.{Line}
use Rattle.memory.specs.Pieces.{piece, bytes_in}
use Rattle.pieces.specs.Calls.{Left, Advanced, stands_for}
use Rattle.pieces.proofs.Calls.{call_more}

filled_front : (kept end : ℕ) (buffer : List ℕ) → kept ≤ end → take end buffer ≡ take kept buffer ++ slice_range buffer kept end
filled_front kept end buffer within =
    let whole : kept + (end - kept) ≡ end = omega arith in
    ap (λ n. take n buffer) (sym whole) ∙ take-add kept (end - kept) buffer

-- what it leaves stands for what is known after the bytes before it and its own
pub call_reads : {S : Type 0} (line : S → Line → S) (s : S) (seen : List ℕ) (l : Left S) (end : ℕ) (r : Left S)
    → stands_for l ≡ bytes_in line (piece s []) seen → l.kept ≤ end → Advanced line l.known end l.buffer r
    → stands_for r ≡ bytes_in line (piece s []) (seen ++ slice_range l.buffer l.kept end)
call_reads line s seen l end r read within a =
    call_more line s seen l read (record { bytes = slice_range l.buffer l.kept end; filled = end; buffer = l.buffer; left = r }) (filled_front l.kept end l.buffer within) a
