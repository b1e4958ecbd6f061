-- What is shown of calls that hand on bytes in pieces, whatever a line does to what is known: types only. Each is proved in the file and by the name in brackets.
-- Assumes nothing.
use Rattle.std.specs.Prelude.{ℕ, ◌≡◌, List, [], map}
use Rattle.memory.specs.Bytes.{Line}
use Rattle.memory.specs.Pieces.{piece, bytes_in}
use Rattle.pieces.specs.Calls.{started, stands_for, Call, Calls, joined, last_left}

-- Calls one after the other leave what all their bytes, joined, leave. (Calls: calls_read)
abbrev pub CallsRead : Type 1
CallsRead =
    (S : Type 0) (line : S → Line → S) (s : S) (buffer : List ℕ) (calls : List (Call S)) → Calls line (started s buffer) calls
    → stands_for (last_left (started s buffer) calls) ≡ bytes_in line (piece s []) (joined calls)

-- Bytes can be handed on in any pieces. (Handed: calls_exist)
abbrev pub CallsExist : Type 1
CallsExist =
    (S : Type 0) (line : S → Line → S) (s : S) (buffer : List ℕ) (pieces : List (List ℕ))
    → (calls : List (Call S)) × (Calls line (started s buffer) calls × (map (λ c. c.bytes) calls ≡ pieces))
