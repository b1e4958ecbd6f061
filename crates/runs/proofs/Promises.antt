-- Every statement of this crate is proved.
-- Assumes nothing.
use Rattle.runs.specs.Promises.{Promises}
use Rattle.runs.proofs.FillStream.{fill_stream_is_text}
use Rattle.runs.proofs.FillLength.{fill_text_short}

pub promises : Promises
promises = record { fill_text = fill_stream_is_text; short = fill_text_short }
