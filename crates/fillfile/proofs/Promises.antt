-- Every statement of this crate is proved.
-- Assumes nothing.
use Rattle.fillfile.specs.Promises.{Promises}
use Rattle.fillfile.proofs.Program.{pieces_are_text}

pub promises : Promises
promises = record { text = pieces_are_text }
