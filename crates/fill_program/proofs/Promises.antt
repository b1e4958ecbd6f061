-- Every statement of this crate is proved.
-- Assumes nothing.
use Rattle.fill_program.specs.Promises.{Promises}
use Rattle.fill_program.proofs.Printed.{fill_printed}

pub promises : Promises
promises = record { printed = fill_printed }
