-- Every statement of this crate, as the fields of one record: a proof of it is a proof of each.
-- (Promises: promises)
-- Assumes nothing.
use Rattle.check_program.specs.Statements.{CheckPrinted}

pub record Promises : Type 0 where
  pub printed : CheckPrinted
