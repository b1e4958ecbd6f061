-- Every statement of this crate, as the fields of one record: a proof of it is a proof of each. (Promises: promises)
-- Assumes nothing.
use Rattle.pieces.specs.Statements.{CallsRead, CallsExist}

pub record Promises : Type 1 where
  pub read : CallsRead
  pub exist : CallsExist
