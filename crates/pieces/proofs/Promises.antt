-- Every statement of this crate is proved.
-- Assumes nothing.
use Rattle.pieces.specs.Promises.{Promises}
use Rattle.pieces.proofs.Calls.{calls_read}
use Rattle.pieces.proofs.Handed.{calls_exist}

pub promises : Promises
promises = record { read = calls_read; exist = calls_exist }
