-- Every statement of this crate is proved.
-- Assumes nothing.
use Rattle.stream.specs.Promises.{Promises}
use Rattle.stream.proofs.File.{pieces_are_file, pieces_are_printed}

pub promises : Promises
promises = record { file = pieces_are_file; printed = pieces_are_printed }
