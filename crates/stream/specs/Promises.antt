-- Every statement of this crate, as the fields of one record: a proof of it is a proof of each. (Promises: promises)
-- Assumes nothing.
use Rattle.stream.specs.Statements.{PiecesAreFile, PiecesArePrinted}

pub record Promises : Type 0 where
  pub file : PiecesAreFile
  pub printed : PiecesArePrinted
