-- The name of a line, its first field, as one number: its key, and the op and the memory that a key stands for.
-- Assumes nothing.
use Rattle.std.specs.Prelude.{ℕ, ◌+◌, ◌*◌, cond, List, [], ◌∷◌, eqb, leb, length}
use Rattle.std.specs.Prelude.{Option, None, Some}
use Rattle.memory.specs.declared.Memory.{Memory}
use Rattle.memory.specs.declared.Memory.TheVariants.{Ram, Rom, Set, Stack, Queue}
use Rattle.memory.specs.declared.Op.{Op}
use Rattle.memory.specs.declared.Op.TheVariants.{Init, Access, Look, Member, Push, Pop, Enqueue, Dequeue, End, Range, Other}
use Rattle.memory.specs.Names.{memory_name, op_name}
use Rattle.memory.specs.Bytes.{comma}
use Rattle.keys.specs.declared.Name.{Name}

-- bytes to the base 256, after the key of the bytes before them
unfoldable pub key_from : ℕ → List ℕ → ℕ
key_from key [] = key
key_from key (b ∷ bs) = key_from (key * 256 + b) bs

-- the bytes of the longest name of an op or a memory, `enqueue` and `dequeue`
unfoldable pub longest_name : ℕ
longest_name = 7

-- the key of a name: a 1 and its bytes, so that no two names have one key; 0 where it is longer than any that is known
unfoldable pub key_of : List ℕ → ℕ
key_of name = cond (leb (length name) longest_name) (key_from 1 name) 0

-- the bytes before the first comma: the first field of a line
unfoldable pub first : List ℕ → List ℕ
first [] = []
first (b ∷ bs) = cond (eqb b comma) [] (b ∷ first bs)

-- the key of the first field, and the position after it
unfoldable pub name_of : List ℕ → Name
name_of name = record { key = key_of name; next = length name }

-- the op whose name has the key
unfoldable pub op_keyed : ℕ → Op
op_keyed key =
    cond (eqb key (key_of (op_name Init))) Init
    (cond (eqb key (key_of (op_name Access))) Access
    (cond (eqb key (key_of (op_name Look))) Look
    (cond (eqb key (key_of (op_name Member))) Member
    (cond (eqb key (key_of (op_name Push))) Push
    (cond (eqb key (key_of (op_name Pop))) Pop
    (cond (eqb key (key_of (op_name Enqueue))) Enqueue
    (cond (eqb key (key_of (op_name Dequeue))) Dequeue
    (cond (eqb key (key_of (op_name End))) End
    (cond (eqb key (key_of (op_name Range))) Range
    Other)))))))))

-- the memory whose name has the key
unfoldable pub memory_keyed : ℕ → Option Memory
memory_keyed key =
    cond (eqb key (key_of (memory_name Ram))) (Some Ram)
    (cond (eqb key (key_of (memory_name Rom))) (Some Rom)
    (cond (eqb key (key_of (memory_name Set))) (Some Set)
    (cond (eqb key (key_of (memory_name Stack))) (Some Stack)
    (cond (eqb key (key_of (memory_name Queue))) (Some Queue)
    None))))
