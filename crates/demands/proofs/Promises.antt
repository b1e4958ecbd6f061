-- Every statement of this crate is proved.
-- Assumes nothing.
use Rattle.demands.specs.Promises.{Promises}
use Rattle.demands.proofs.Balance.{challenges_counted}
use Rattle.demands.proofs.Demand.{file_moduli, moduli_prime, demand_at, demand_three}
use Rattle.demands.proofs.HonestRows.{honest_rows, refused_not_right}
use Rattle.demands.proofs.HonestFile.{honest_run_accepted, honest_file_accepted, honest_file_at_p}
use Rattle.demands.proofs.FilledFile.{filling_accepted, filling_at_p}
use Rattle.demands.proofs.FillTested.{tested_rows_late}

pub promises : Promises
promises = record {
  moduli = file_moduli;
  prime = moduli_prime;
  counted = challenges_counted;
  demand_at = demand_at;
  demand_three = demand_three;
  honest_rows = honest_rows;
  refused_not_right = refused_not_right;
  honest_run = honest_run_accepted;
  honest_file = honest_file_accepted;
  honest_file_at_p = honest_file_at_p;
  filling = filling_accepted;
  filling_at_p = filling_at_p;
  tested = tested_rows_late;
}
