-- Every statement of this crate is proved.
-- Assumes nothing.
use Rattle.index.specs.Promises.{Promises}
use Rattle.index.proofs.Search.{search_finds_first}

pub promises : Promises
promises = record { search = search_finds_first }
