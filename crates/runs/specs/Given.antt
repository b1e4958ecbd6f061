-- The input row that the code's struct of its columns stands for.
-- Assumes nothing.
use Rattle.runs.specs.Honest.{Input}
use Rattle.runs.specs.declared.Given.{Given}

-- `op,guard,addr,value`
abbrev pub given_input : Given → Input
given_input g = record { op = g.op; guard = g.guard; addr = g.addr; value = g.value }
