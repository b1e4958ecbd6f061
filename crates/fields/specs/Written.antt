-- A line that the code reads, as document 01's definitions have it.
-- Assumes nothing.
use Rattle.memory.specs.Bytes.{Line}
use Rattle.fields.specs.declared.written.Written.{Written}

abbrev pub as_line : Written → Line
as_line line = record { text = line.text.now; ended = line.ended }
