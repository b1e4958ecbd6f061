-- `field::wide::Field61::fold` meets its contract: a fold of any width keeps the number modulo
-- 2 ^ k − 1.
-- Assumes nothing.
use Rattle.field.specs.Wide.{p61}
use Rattle.field.specs.Fold.{fold_of}
use Rattle.field.proofs.Fold.{same_fold}
use Rattle.field.proofs.wide.Field61.fold.Goals as goal

pub returns-clause-same : goal.returns-clause-same
unfolding p61 fold_of
returns-clause-same c = same_fold 61 c.args.x
