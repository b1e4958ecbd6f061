-- Every statement of this crate is proved.
-- Assumes nothing.
use Rattle.stdio.specs.Promises.{Promises}
use Rattle.stdio.proofs.Known.{read_answers, write_answers, known_read, known_write}

pub promises : Promises
promises = record {
  answers_read = read_answers;
  answers_write = write_answers;
  read = known_read;
  write = known_write;
}
