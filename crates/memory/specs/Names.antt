-- The fixed byte strings of document 01: both names lines, the names of the memories and of the ops.
-- Assumes nothing.
use Rattle.std.specs.Prelude.{ℕ, Bool, cond, List, [], eqb}
use Rattle.std.specs.Prelude.{Option, None, Some}
use Rattle.memory.specs.declared.Memory.{Memory}
use Rattle.memory.specs.declared.Memory.TheVariants.{Ram, Rom, Set, Stack, Queue}
use Rattle.memory.specs.declared.Op.{Op}
use Rattle.memory.specs.declared.Op.TheVariants.{Init, Access, Look, Member, Push, Pop, Enqueue, Dequeue, End, Range, Other}
use Rattle.memory.specs.Text.{bytes}
use Rattle.memory.specs.Bytes.{same}

-- line 1: `memory,size,count,r,a,b,c`
unfoldable pub value_names : List ℕ
value_names = bytes "memory,size,count,r,a,b,c"

-- line 3: `op,guard,addr,value,old,time,version`
unfoldable pub row_names : List ℕ
row_names = bytes "op,guard,addr,value,old,time,version"

-- the filler's line 1: `memory,size,count`
unfoldable pub fill_names : List ℕ
fill_names = bytes "memory,size,count"

-- the filler's line 3: `op,guard,addr,value`
unfoldable pub input_names : List ℕ
input_names = bytes "op,guard,addr,value"

-- the report's names: `answer,line,inputs,mults`
unfoldable pub report_names : List ℕ
report_names = bytes "answer,line,inputs,mults"

-- the filler's refusal: `answer,line`
unfoldable pub refusal_names : List ℕ
refusal_names = bytes "answer,line"

-- "The memory is `ram`, `rom`, `set`, `stack` or `queue`."
unfoldable pub memory_name : Memory → List ℕ
memory_name Ram = bytes "ram"
memory_name Rom = bytes "rom"
memory_name Set = bytes "set"
memory_name Stack = bytes "stack"
memory_name Queue = bytes "queue"

unfoldable pub memory_named : List ℕ → Option Memory
memory_named text =
    cond (same text (memory_name Ram)) (Some Ram) (cond (same text (memory_name Rom)) (Some Rom) (cond (same text (memory_name Set)) (Some Set) (cond (same text (memory_name Stack)) (Some Stack) (cond (same text (memory_name Queue)) (Some Queue) None))))

-- the number of a memory in the calls of the filler's library, and the memory that a number stands
-- for
unfoldable pub memory_code : Memory → ℕ
memory_code Ram = 0
memory_code Rom = 1
memory_code Set = 2
memory_code Stack = 3
memory_code Queue = 4

unfoldable pub memory_coded : ℕ → Option Memory
memory_coded k =
    cond (eqb k 0) (Some Ram) (cond (eqb k 1) (Some Rom) (cond (eqb k 2) (Some Set) (cond (eqb k 3) (Some Stack) (cond (eqb k 4) (Some Queue) None))))

-- the ops, as the rows name them; `Other` has no name
unfoldable pub op_name : Op → List ℕ
op_name Init = bytes "init"
op_name Access = bytes "access"
op_name Look = bytes "look"
op_name Member = bytes "member"
op_name Push = bytes "push"
op_name Pop = bytes "pop"
op_name Enqueue = bytes "enqueue"
op_name Dequeue = bytes "dequeue"
op_name End = bytes "end"
op_name Range = bytes "range"
op_name Other = []

unfoldable pub op_named : List ℕ → Op
op_named text =
    cond (same text (op_name Init)) Init (cond (same text (op_name Access)) Access (cond (same text (op_name Look)) Look (cond (same text (op_name Member)) Member (cond (same text (op_name Push)) Push (cond (same text (op_name Pop)) Pop (cond (same text (op_name Enqueue)) Enqueue (cond (same text (op_name Dequeue)) Dequeue (cond (same text (op_name End)) End (cond (same text (op_name Range)) Range Other)))))))))

-- the number of each op in the slices of the filler's library
unfoldable pub op_code : Op → ℕ
op_code Init = 0
op_code Access = 1
op_code Look = 2
op_code Member = 3
op_code Push = 4
op_code Pop = 5
op_code Enqueue = 6
op_code Dequeue = 7
op_code End = 8
op_code Range = 9
op_code Other = 10

-- the op that a number stands for
unfoldable pub op_coded : ℕ → Op
op_coded k =
    cond (eqb k 0) Init
    (cond (eqb k 1) Access
    (cond (eqb k 2) Look
    (cond (eqb k 3) Member
    (cond (eqb k 4) Push
    (cond (eqb k 5) Pop
    (cond (eqb k 6) Enqueue
    (cond (eqb k 7) Dequeue
    (cond (eqb k 8) End
    (cond (eqb k 9) Range Other)))))))))

unfoldable pub is_op : Op → Op → Bool
is_op x y = eqb (op_code x) (op_code y)
