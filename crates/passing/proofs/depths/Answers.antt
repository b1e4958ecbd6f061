-- `passing::depths` meets its contract: a factor of sums that are reduced is that of the sums, and a product by 1 is the remainder.
-- Assumes nothing.
use Rattle.std.proofs.Common.{mod-eq_of_lt}
use Rattle.memory.specs.Rows.{depth_factor}
use Rattle.memory.proofs.SameOp.{same_op}
use Rattle.passing.proofs.Reduced.{dequeue_product, product_by_one}
use Rattle.passing.proofs.depths.Goals as goal

pub returns-then-eq : goal.returns-then-eq
unfolding depth_factor
returns-then-eq c = simp (c.mul.ensures, c.sub.ensures, c.add-down.ensures, c.add-up.ensures, ← same_op, ← c.eq.ensures, c.if-eq.true, dequeue_product)

pub returns-then-c-modulus : goal.returns-then-c-modulus
unfolding depth_factor
returns-then-c-modulus c =
    let small = rw c.modulus.ensures at c.if-c-modulus.true in
    simp (← same_op, ← c.eq.ensures, c.if-eq.false, ← product_by_one, mod-eq_of_lt small)

pub returns-else-c-modulus : goal.returns-else-c-modulus
unfolding depth_factor
returns-else-c-modulus c = simp (c.reduce.ensures, ← same_op, ← c.eq.ensures, c.if-eq.false, product_by_one)
