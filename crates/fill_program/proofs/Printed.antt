-- What the program prints of an input whose bytes are known, in plain equations.
-- Assumes nothing.
use Rattle.fill_program.specs.Statements.{FillPrinted}

pub fill_printed : FillPrinted
fill_printed file old new = ((λ h. h), (λ e h. h))
