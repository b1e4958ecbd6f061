-- What the filter has taken is what the input has lost, and nothing is printed yet.
use Rattle.std.proofs.Common.{ℕ, List, [], take}
use Rattle.std.specs.Io.KnownBytes.{Consumes, Keeps}
use Rattle.stdio.proofs.filter.run.Given as goal

abbrev pub invariant-reads : goal.invariant-reads
invariant-reads g l =
    g.F.Filter.has_taken l.fn.filter [] (take (g.F.Filter.kept l.fn.filter) l.fn.buf)
    → (bytes : List ℕ)
    × g.F.Filter.has_taken l.filter bytes (take (g.F.Filter.kept l.filter) l.buf)
    × Consumes (g.R.Read.remaining l.fn.input) (g.R.Read.remaining l.input) bytes
    × Keeps (g.W.Write.contents l.fn.output) (g.W.Write.contents l.output)
