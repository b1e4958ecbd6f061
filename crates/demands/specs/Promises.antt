-- Every statement of this crate, as the fields of one record: a proof of it is a proof of each. (Promises: promises)
-- Assumes nothing.
use Rattle.demands.specs.Statements.{FileModuli, ModuliPrime, ChallengesCounted, DemandAt, DemandThree, HonestRows, RefusedNotRight, HonestRunAccepted, HonestFileAccepted, HonestFileAtP, FillingAccepted, FillingAtP, TestedRowsLate}

pub record Promises : Type 0 where
  pub moduli : FileModuli
  pub prime : ModuliPrime
  pub counted : ChallengesCounted
  pub demand_at : DemandAt
  pub demand_three : DemandThree
  pub honest_rows : HonestRows
  pub refused_not_right : RefusedNotRight
  pub honest_run : HonestRunAccepted
  pub honest_file : HonestFileAccepted
  pub honest_file_at_p : HonestFileAtP
  pub filling : FillingAccepted
  pub filling_at_p : FillingAtP
  pub tested : TestedRowsLate
