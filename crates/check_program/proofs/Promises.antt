-- Every statement of this crate is proved.
-- Assumes nothing.
use Rattle.check_program.specs.Promises.{Promises}
use Rattle.check_program.proofs.Printed.{check_printed}

pub promises : Promises
promises = record { printed = check_printed }
