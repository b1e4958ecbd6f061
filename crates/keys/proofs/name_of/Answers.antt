-- `keys::name_of` meets its contract. The loop's invariant: the key of the bytes that were passed, with those that are left, is the key of the name.
-- Assumes nothing.
use Rattle.std.proofs.Common.{arith}
use Rattle.keys.proofs.Names.{naming_goes, naming_ends, naming_closed, naming_long, naming_fits}
use Rattle.keys.proofs.name_of.Goals as goal

pub returns-then-b-eq-COMMA : goal.returns-then-b-eq-COMMA
returns-then-b-eq-COMMA c = naming_ends c.loop-i.invariant (omega arith) (omega arith) (omega arith) c.if-b-eq-COMMA.true

pub overflow_mul-key : goal.overflow_mul-key
overflow_mul-key c = omega (arith, naming_fits c.loop-i.invariant (omega arith))

pub overflow_add-key : goal.overflow_add-key
overflow_add-key c = omega (arith, naming_fits c.loop-i.invariant (omega arith), c.type_inv.text c.loop-i.i)

pub loop-i-preserved : goal.loop-i-preserved
loop-i-preserved c = naming_goes c.loop-i.invariant (omega arith) (omega arith) c.if-b-eq-COMMA.false (omega (arith, c.type_inv.text c.loop-i.i))

pub returns-then-next-stop : goal.returns-then-next-stop
returns-then-next-stop c = naming_closed c.loop-i.invariant c.min-stop.ensures (omega arith) c.position_from-next.ensures c.if-next-stop.true

pub returns-else-next-stop : goal.returns-else-next-stop
returns-else-next-stop c = naming_long c.loop-i.invariant c.min-stop.ensures (omega arith) c.position_from-next.ensures c.if-next-stop.false
