-- Every statement of this crate, as the fields of one record: a proof of it is a proof of each.
-- (Promises: promises)
-- Assumes nothing.
use Rattle.stdio.specs.Statements.{ReadAnswers, WriteAnswers, KnownRead, KnownWrite}

pub record Promises : Type 0 where
  pub answers_read : ReadAnswers
  pub answers_write : WriteAnswers
  pub read : KnownRead
  pub write : KnownWrite
