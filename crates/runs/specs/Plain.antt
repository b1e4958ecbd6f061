-- The plain memory of document 01, "fed the trace and no advice", and when a trace is right or wrong.
-- Assumes nothing.
use Rattle.std.specs.Prelude.{ℕ, Bool, true, false, ◌&&◌, ◌||◌, cond, List, [], ◌∷◌, ◌++◌, map, eqb, ltb, length, get_or, drop, set}
use Rattle.memory.specs.declared.Memory.{Memory}
use Rattle.memory.specs.declared.Memory.TheVariants.{Ram, Rom, Set, Stack, Queue}
use Rattle.memory.specs.declared.Op.TheVariants.{Push, Enqueue}
use Rattle.memory.specs.declared.Row.{Row}
use Rattle.memory.specs.Names.{is_op}
use Rattle.memory.specs.Content.{Content, no_content, same_content, number_of}
use Rattle.memory.specs.Rows.{init_rows, operation_rows}

-- An operation as the trace has it: "every operation's op, guard, addr and value, and the old of loads, looks and executed pops and dequeues".
-- It cannot hold advice.
pub data Operation : Type 0 where
  -- access under guard 1: addr, value
  store : ℕ → Content → Operation
  -- access under guard 0: addr, value, old
  load : ℕ → Content → Content → Operation
  -- look: addr, old
  look : ℕ → Content → Operation
  -- member: value
  member : ℕ → Operation
  -- push and enqueue: value; the skipped ones
  push : Content → Operation
  skipped_push : Content → Operation
  enqueue : Content → Operation
  skipped_enqueue : Content → Operation
  -- pop and dequeue: old; the skipped ones
  pop : Content → Operation
  skipped_pop : Operation
  dequeue : Content → Operation
  skipped_dequeue : Operation

-- "The trace is the memory, n, T, the init values, every operation's op, guard, addr and value, and the old of loads, looks and executed pops and dequeues."
pub record Trace : Type 0 where
  pub memory : Memory
  pub size : ℕ
  pub count : ℕ
  pub inits : List Content
  pub operations : List Operation

-- "Ram and rom start as n cells with the init values, a set as those values, stack and queue as an empty list."
unfoldable pub start : Memory → List Content → List Content
start Ram inits = inits
start Rom inits = inits
start Set inits = inits
start Stack inits = []
start Queue inits = []

-- a number is among the elements of a set, each a content of one number
unfoldable pub among : ℕ → List Content → Bool
among x [] = false
among x (y ∷ ys) = eqb x (number_of y) || among x ys

-- a list without its last entry, and the last entry
unfoldable pub front : List Content → List Content
front [] = []
front (x ∷ []) = []
front (x ∷ y ∷ ys) = x ∷ front (y ∷ ys)

unfoldable pub back : List Content → Content
back [] = no_content
back (x ∷ []) = x
back (x ∷ y ∷ ys) = back (y ∷ ys)

unfoldable pub holds : List Content → Bool
holds [] = false
holds (x ∷ xs) = true

-- "Each operation fits or not"
unfoldable pub fits : List Content → Operation → Bool
-- "with addr ≥ n it does not fit", "guard 1 fits"
fits content (store addr value) = ltb addr (length content)
-- "guard 0 fits if old is the cell's content"
fits content (load addr value old) = ltb addr (length content) && same_content old (get_or content addr no_content)
-- "look fits if addr < n and old is the cell's content"
fits content (look addr old) = ltb addr (length content) && same_content old (get_or content addr no_content)
-- "member if value is in the set"
fits content (member value) = among value content
-- "push, enqueue: fit"
fits content (push value) = true
fits content (skipped_push value) = true
fits content (enqueue value) = true
fits content (skipped_enqueue value) = true
-- "Guard 1 on an empty list does not fit", "otherwise it takes off the back for pop, the front for dequeue, and fits if old is what it took"
fits content (pop old) = holds content && same_content old (back content)
fits content (dequeue old) = holds content && same_content old (get_or content 0 no_content)
-- "guard 0 fits and changes nothing"
fits content skipped_pop = true
fits content skipped_dequeue = true

-- the content after an operation
unfoldable pub after : List Content → Operation → List Content
-- "with addr ≥ n it … changes nothing", "guard 1 … puts value there"
after content (store addr value) = set content addr value
after content (load addr value old) = content
after content (look addr old) = content
after content (member value) = content
-- "guard 1 adds value at the back"
after content (push value) = content ++ value ∷ []
after content (skipped_push value) = content
after content (enqueue value) = content ++ value ∷ []
after content (skipped_enqueue value) = content
-- "it takes off the back for pop, the front for dequeue"; an empty list does not change
after content (pop old) = front content
after content (dequeue old) = drop 1 content
after content skipped_pop = content
after content skipped_dequeue = content

unfoldable pub all_fit : List Content → List Operation → Bool
all_fit content [] = true
all_fit content (o ∷ os) = fits content o && all_fit (after content o) os

-- "A trace is wrong if one of its operations does not fit, and right if all fit."
unfoldable pub right : Trace → Bool
right t = all_fit (start t.memory t.inits) t.operations

-- an operation row's part in the trace; each row of a ram is an access, of a rom a look, of a set a member, of a stack a push or pop, of a queue an enqueue or dequeue
unfoldable pub operation_of : Memory → Row → Operation
operation_of Ram row = cond (eqb row.guard 1) (store row.addr row.value) (load row.addr row.value row.old)
operation_of Rom row = look row.addr row.old
operation_of Set row = member (number_of row.value)
operation_of Stack row =
    cond (is_op row.op Push) (cond (eqb row.guard 1) (push row.value) (skipped_push row.value))
    (cond (eqb row.guard 1) (pop row.old) skipped_pop)
operation_of Queue row =
    cond (is_op row.op Enqueue) (cond (eqb row.guard 1) (enqueue row.value) (skipped_enqueue row.value))
    (cond (eqb row.guard 1) (dequeue row.old) skipped_dequeue)

-- the trace of a list of rows
unfoldable pub trace_of : Memory → ℕ → ℕ → List Row → Trace
trace_of m n t rows = record {
  memory = m;
  size = n;
  count = t;
  inits = map (λ row. row.value) (init_rows n rows);
  operations = map (operation_of m) (operation_rows n t rows);
}
