-- What the program prints of an input whose bytes are known, in plain equations.
-- Assumes nothing.
use Rattle.check_program.specs.Statements.{CheckPrinted}

pub check_printed : CheckPrinted
check_printed file old new = ((λ h. h), (λ e h. h))
