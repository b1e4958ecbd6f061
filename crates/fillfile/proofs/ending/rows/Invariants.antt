-- The names line and the rows passed are put.
use Rattle.std.proofs.Common.{Some}
use Rattle.memory.specs.Print.{filled_text}
use Rattle.fillfile.specs.Ending.{output_rows}
use Rattle.fillfile.proofs.Texts.{Putting}
use Rattle.fillfile.proofs.ending.rows.Given as goal

abbrev pub invariant-loop-k : goal.invariant-loop-k
invariant-loop-k l = Putting l.fn.text 0 (filled_text (output_rows l.k l.out)) (Some l.at) l.text
