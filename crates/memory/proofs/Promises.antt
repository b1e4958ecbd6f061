-- Every statement of this crate is proved.
-- Assumes nothing.
use Rattle.memory.specs.Promises.{Promises}
use Rattle.memory.proofs.Content.{same_content_lem, content_same}
use Rattle.memory.proofs.Fold.{fold_is_file, run_is_steps, lent_is_steps, run_is_file, fixed_state, ended_state, row_answered, refusal_stays, accepts_exactly_when}
use Rattle.memory.proofs.WholeFile.{file_accepted}
use Rattle.memory.proofs.Answered.{malformed_answered, well_formed_answered}
use Rattle.memory.proofs.Sight.{fault_by_form}
use Rattle.memory.proofs.Gates.{gates_by_formula}
use Rattle.memory.proofs.Factors.{factors_counted, choices_counted, hashes_counted, depths_counted, mults_counted}
use Rattle.memory.proofs.ReportLength.{report_short}
use Rattle.memory.proofs.Stream.{stream_is_file}
use Rattle.memory.proofs.Cases.{cases_hold, counted_challenge, ram_products}

pub promises : Promises
promises = record {
  same_content = same_content_lem;
  content_same = content_same;
  fold = fold_is_file;
  run_is_steps = run_is_steps;
  lent_is_steps = lent_is_steps;
  run = run_is_file;
  sight = fault_by_form;
  fixed = fixed_state;
  ended = ended_state;
  answered = row_answered;
  refusal = refusal_stays;
  accepts = accepts_exactly_when;
  file = file_accepted;
  malformed = malformed_answered;
  well_formed = well_formed_answered;
  gates = gates_by_formula;
  factors = factors_counted;
  choices = choices_counted;
  hashes = hashes_counted;
  depths = depths_counted;
  mults = mults_counted;
  report = report_short;
  stream_is_file = stream_is_file;
  cases = cases_hold;
  counted = counted_challenge;
  products = ram_products;
}
