-- What one operation of each memory does to the words: the row that it writes, the scratch words
-- after it, and the cursor after it. A word of a cell packs where its content comes from and its
-- time. Of a ram, a stack and a queue the w cells lie from word 0 on; of a ram and a stack the
-- lookups of each age lie from w on, of age 1 first. A word of a key counts its lookups: the keys
-- of a rom are the addresses, and those of a set the elements, whose words also hold the links of
-- the search tree.
-- Assumes nothing.
use Rattle.std.specs.Prelude.{ℕ, ◌+◌, ◌-◌, ◌*◌, ◌≤◌, ◌<◌, cond, ◌≡◌, List, eqb, length, get_or, set}
use Rattle.std.proofs.lemmas.List.Edits.{sets}
use Rattle.memory.specs.declared.Memory.{Memory}
use Rattle.memory.specs.declared.Memory.TheVariants.{Ram, Rom, Set, Stack, Queue}
use Rattle.memory.specs.Rows.{limit}
use Rattle.words.specs.Inputs.{value_at, op_at, guard_at, addr_at}
use Rattle.words.specs.Cells.{packed, source_in, time_in, content_in}
use Rattle.words.specs.Counts.{lookup, lookups_in}
use Rattle.index.specs.Values.{values_in, first_at}
use Rattle.filler.specs.declared.steps.Cursor.{Cursor}
use Rattle.words.specs.declared.Advice.{Advice}
use Rattle.filler.specs.Words.{copied, TreeIn}

-- The words of a row, and the scratch words after it
pub record Turn : Type 0 where
  pub words : List ℕ
  pub scratch : List ℕ

abbrev pub made : List ℕ → List ℕ → Turn
made ws s = record { words = ws; scratch = s }

-- what an operation leaves of the output and of the scratch words is what its turn says
pub record Turned (k : ℕ) (t : Turn) (out out' s' : List ℕ) : Type 0 where
  pub row : out' ≡ sets out (7 * k) t.words
  pub kept : s' ≡ t.scratch

-- What an operation is told: its advice, the cursor after it, and the scratch words after it
pub record Told : Type 0 where
  pub advice : Advice
  pub next : Cursor
  pub scratch : List ℕ

abbrev pub told : ℕ → ℕ → ℕ → Cursor → List ℕ → Told
told o t v next s = record { advice = record { old = o; time = t; version = v }; next = next; scratch = s }

pub record Advised (t : Told) (advice : Advice) (next : Cursor) (s' : List ℕ) : Type 0 where
  pub told : advice ≡ t.advice
  pub later : next ≡ t.next
  pub kept : s' ≡ t.scratch

-- the turn of operation k, by what it is told
abbrev pub turn_of : List ℕ → ℕ → Told → Turn
turn_of ops k t = made (copied ops k t.advice.old t.advice.time t.advice.version) t.scratch

-- a slot counts one more lookup
abbrev pub counted : List ℕ → ℕ → List ℕ
counted s slot = set s slot (get_or s slot 0 + 1)

-- a slot is there, and its count may rise
pub record Countable (s : List ℕ) (slot : ℕ) : Type 0 where
  pub inside : slot < length s
  pub low : get_or s slot 0 < limit

-- the slot of the age clock − time
abbrev pub slot_of : ℕ → ℕ → ℕ → ℕ
slot_of w clock time = w + (clock - time - 1)

-- ram: access k; a store makes it the source of its cell, and a load leaves the source as it is
abbrev pub ram_slot : ℕ → ℕ → ℕ → List ℕ → ℕ
ram_slot w clock a s = slot_of w clock (time_in (get_or s a 0))

abbrev pub ram_source : ℕ → ℕ → ℕ → List ℕ → ℕ
ram_source k g a s = cond (eqb g 1) (k + 1) (source_in (get_or s a 0))

abbrev pub later : Cursor → Cursor
later at = record { clock = at.clock + 1; head = at.head; tail = at.tail }

unfoldable pub ram_told : ℕ → ℕ → Cursor → ℕ → ℕ → List ℕ → List ℕ → List ℕ → Told
ram_told w k at g a inits ops s =
    told (content_in inits ops a (get_or s a 0)) (time_in (get_or s a 0)) (get_or s (ram_slot w at.clock a s) 0) (later at)
    (set (counted s (ram_slot w at.clock a s)) a (packed (ram_source k g a s) at.clock))

pub record RamReady (w clock a : ℕ) (s : List ℕ) : Type 0 where
  pub within : a < w
  pub older : time_in (get_or s a 0) < clock
  pub countable : Countable s (ram_slot w clock a s)

-- an access's number is below the limit, and its clock may rise
pub record Timely (w k : ℕ) (at : Cursor) (a : ℕ) (s : List ℕ) : Type 0 where
  pub low : k < limit
  pub early : at.clock ≤ limit
  pub ready : RamReady w at.clock a s

-- a key counts one more lookup
abbrev pub key_counted : List ℕ → ℕ → List ℕ
key_counted s key = set s key (get_or s key 0 + lookup)

-- a key is there, and its count may rise
pub record KeyCountable (s : List ℕ) (key : ℕ) : Type 0 where
  pub inside : key < length s
  pub low : lookups_in (get_or s key 0) < limit

-- rom
unfoldable pub rom_told : Cursor → ℕ → List ℕ → List ℕ → Told
rom_told at a inits s = told (value_at inits a) 0 (lookups_in (get_or s a 0)) at (key_counted s a)

abbrev pub RomReady : ℕ → List ℕ → Type 0
RomReady a s = KeyCountable s a

-- set
unfoldable pub set_told : Cursor → ℕ → List ℕ → List ℕ → Told
set_told at v inits s =
    told 0 0 (lookups_in (get_or s (first_at v (values_in inits)) 0)) at (key_counted s (first_at v (values_in inits)))

pub record SetReady (w v : ℕ) (inits s : List ℕ) : Type 0 where
  pub tree : TreeIn w inits s
  pub countable : KeyCountable s (first_at v (values_in inits))

-- stack
unfoldable pub pushed : Cursor → ℕ → Cursor
pushed at g = cond (eqb g 1) (record { clock = at.clock + 1; head = at.head; tail = at.tail + 1 }) at

unfoldable pub push_told : ℕ → Cursor → ℕ → List ℕ → Told
push_told k at g s = told 0 0 0 (pushed at g) (cond (eqb g 1) (set s at.tail (packed (k + 1) at.clock)) s)

pub record PushReady (k : ℕ) (at : Cursor) (g : ℕ) (s : List ℕ) : Type 0 where
  pub low : k < limit
  pub free : g ≡ 1 → at.tail < length s
  pub early : at.clock ≤ limit

abbrev pub top_word : Cursor → List ℕ → ℕ
top_word at s = get_or s (at.tail - 1) 0

abbrev pub pop_time : Cursor → List ℕ → ℕ
pop_time at s = time_in (top_word at s)

unfoldable pub popped : Cursor → ℕ → Cursor
popped at g = cond (eqb g 1) (record { clock = at.clock; head = at.head; tail = at.tail - 1 }) at

unfoldable pub pop_told : ℕ → Cursor → ℕ → List ℕ → List ℕ → List ℕ → Told
pop_told w at g inits ops s =
    cond (eqb g 1)
    (told (content_in inits ops (at.tail - 1) (top_word at s)) (pop_time at s) (get_or s (slot_of w at.clock (pop_time at s)) 0) (popped at g)
    (counted s (slot_of w at.clock (pop_time at s))))
    (told 0 (at.clock - 1) (get_or s w 0) (popped at g) (counted s w))

-- an executed pop has a cell to take
pub record Taken (w : ℕ) (at : Cursor) (s : List ℕ) : Type 0 where
  pub some : 1 ≤ at.tail
  pub within : at.tail ≤ w
  pub older : pop_time at s < at.clock
  pub countable : Countable s (slot_of w at.clock (pop_time at s))

pub record PopReady (w : ℕ) (at : Cursor) (g : ℕ) (s : List ℕ) : Type 0 where
  pub started : 1 ≤ at.clock
  pub first : Countable s w
  pub taken : g ≡ 1 → Taken w at s

unfoldable pub stack_told : ℕ → ℕ → Cursor → ℕ → ℕ → List ℕ → List ℕ → List ℕ → Told
stack_told w k at o g inits ops s = cond (eqb o 4) (push_told k at g s) (pop_told w at g inits ops s)

unfoldable pub stacked : Cursor → ℕ → ℕ → Cursor
stacked at o g = cond (eqb o 4) (pushed at g) (popped at g)

pub record StackReady (w k : ℕ) (at : Cursor) (o g : ℕ) (s : List ℕ) : Type 0 where
  pub push : o ≡ 4 → PushReady k at g s
  pub pop : (o ≡ 4 → ⊥) → PopReady w at g s

-- queue
unfoldable pub enqueued : Cursor → ℕ → Cursor
enqueued at g = cond (eqb g 1) (record { clock = at.clock; head = at.head; tail = at.tail + 1 }) at

-- an element has no time
unfoldable pub enqueue_told : ℕ → Cursor → ℕ → List ℕ → Told
enqueue_told k at g s = told 0 0 0 (enqueued at g) (cond (eqb g 1) (set s at.tail (packed (k + 1) 0)) s)

pub record EnqueueReady (k : ℕ) (at : Cursor) (g : ℕ) (s : List ℕ) : Type 0 where
  pub low : k < limit
  pub free : g ≡ 1 → at.tail < length s

unfoldable pub dequeued : Cursor → ℕ → Cursor
dequeued at g = cond (eqb g 1) (record { clock = at.clock; head = at.head + 1; tail = at.tail }) at

unfoldable pub dequeue_told : Cursor → ℕ → List ℕ → List ℕ → List ℕ → Told
dequeue_told at g inits ops s = told (cond (eqb g 1) (content_in inits ops at.head (get_or s at.head 0)) 0) 0 0 (dequeued at g) s

pub record DequeueReady (at : Cursor) (g : ℕ) (s : List ℕ) : Type 0 where
  pub held : g ≡ 1 → at.head < length s

unfoldable pub queue_told : ℕ → Cursor → ℕ → ℕ → List ℕ → List ℕ → List ℕ → Told
queue_told k at o g inits ops s = cond (eqb o 6) (enqueue_told k at g s) (dequeue_told at g inits ops s)

unfoldable pub queued : Cursor → ℕ → ℕ → Cursor
queued at o g = cond (eqb o 6) (enqueued at g) (dequeued at g)

pub record QueueReady (k : ℕ) (at : Cursor) (o g : ℕ) (s : List ℕ) : Type 0 where
  pub enqueue : o ≡ 6 → EnqueueReady k at g s
  pub dequeue : (o ≡ 6 → ⊥) → DequeueReady at g s

-- any memory, by the words of operation k
unfoldable pub told_by : Memory → ℕ → ℕ → Cursor → ℕ → ℕ → ℕ → ℕ → List ℕ → List ℕ → List ℕ → Told
told_by Ram w k at o g a v inits ops s = ram_told w k at g a inits ops s
told_by Rom w k at o g a v inits ops s = rom_told at a inits s
told_by Set w k at o g a v inits ops s = set_told at v inits s
told_by Stack w k at o g a v inits ops s = stack_told w k at o g inits ops s
told_by Queue w k at o g a v inits ops s = queue_told k at o g inits ops s

abbrev pub ReadyBy : Memory → ℕ → ℕ → Cursor → ℕ → ℕ → ℕ → ℕ → List ℕ → List ℕ → Type 0
ReadyBy Ram w k at o g a v inits s = Timely w k at a s
ReadyBy Rom w k at o g a v inits s = RomReady a s
ReadyBy Set w k at o g a v inits s = SetReady w v inits s
ReadyBy Stack w k at o g a v inits s = StackReady w k at o g s
ReadyBy Queue w k at o g a v inits s = QueueReady k at o g s

-- operation k of any memory
unfoldable pub turn : Memory → ℕ → ℕ → Cursor → List ℕ → List ℕ → List ℕ → Turn
turn m w k at inits ops s =
    turn_of ops k (told_by m w k at (op_at ops k) (guard_at ops k) (addr_at ops k) (value_at ops k) inits ops s)

unfoldable pub advanced : Memory → ℕ → Cursor → List ℕ → Cursor
advanced Ram k at ops = later at
advanced Rom k at ops = at
advanced Set k at ops = at
advanced Stack k at ops = stacked at (op_at ops k) (guard_at ops k)
advanced Queue k at ops = queued at (op_at ops k) (guard_at ops k)

abbrev pub Ready : Memory → ℕ → ℕ → Cursor → List ℕ → List ℕ → List ℕ → Type 0
Ready m w k at inits ops s = ReadyBy m w k at (op_at ops k) (guard_at ops k) (addr_at ops k) (value_at ops k) inits s
