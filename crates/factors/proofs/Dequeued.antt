-- What a row adds to the hash of what left the queue, by its op.
-- Assumes nothing.
use mathlib.Core.Bool.{true, false}
use mathlib.Core.List.{[]}
use mathlib.Core.Path.{◌≡◌, refl}
use lib.Dec.{eqb}
use Rattle.memory.specs.declared.Memory.{Memory}
use Rattle.memory.specs.declared.Memory.TheVariants.{Ram, Rom, Set, Stack, Queue}
use Rattle.memory.specs.declared.Op.{Op}
use Rattle.memory.specs.declared.Op.TheVariants.{Dequeue, End}
use Rattle.memory.specs.declared.Row.{Row}
use Rattle.memory.specs.Names.{op_code, is_op}
use Rattle.memory.specs.Step.{dequeued_by}
use Rattle.factors.specs.Left.{left_by}

-- a row that is no dequeue and no end row
pub nothing_dequeued :
    (m : Memory) (row : Row) {o : Op} → row.op ≡ o → is_op o End ≡ false → is_op o Dequeue ≡ false → dequeued_by m row ≡ []
unfolding dequeued_by
nothing_dequeued Ram row e no_end no-dequeue = refl
nothing_dequeued Rom row e no_end no-dequeue = refl
nothing_dequeued Set row e no_end no-dequeue = refl
nothing_dequeued Stack row e no_end no-dequeue = refl
nothing_dequeued Queue row e no_end no-dequeue = simp (e, no_end, no-dequeue)

-- a dequeue
pub dequeue_left : (m : Memory) (row : Row) → row.op ≡ Dequeue → dequeued_by m row ≡ left_by m (eqb row.guard 1) row.old
unfolding dequeued_by left_by is_op op_code
dequeue_left Ram row e = refl
dequeue_left Rom row e = refl
dequeue_left Set row e = refl
dequeue_left Stack row e = refl
dequeue_left Queue row e = simp e

-- an end row
pub end_left : (m : Memory) (row : Row) → row.op ≡ End → dequeued_by m row ≡ left_by m true row.old
unfolding dequeued_by left_by is_op op_code
end_left Ram row e = refl
end_left Rom row e = refl
end_left Set row e = refl
end_left Stack row e = refl
end_left Queue row e = simp e
