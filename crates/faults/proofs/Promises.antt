-- Every statement of this crate is proved.
-- Assumes nothing.
use Rattle.faults.specs.Promises.{Promises}
use Rattle.faults.proofs.FirstFault.{scan_finds_first}

pub promises : Promises
promises = record { scan = scan_finds_first }
