-- `decimal::digits_at` meets its contract: at a digit the run goes on.
-- Assumes nothing.
use Rattle.std.proofs.Common.{arith}
use Rattle.decimal.proofs.Digits.{running_goes}
use Rattle.decimal.proofs.digits_at.Goals as goal

pub loop-i-preserved : goal.loop-i-preserved
loop-i-preserved c = running_goes _ _ _ _ _ c.loop-i.invariant (omega arith) (omega arith) (omega (arith, c.type_inv.text c.loop-i.i)) c.if-digit-gt9.false
