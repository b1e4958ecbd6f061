-- Each read is a call more of the filter, and at the end of input it prints what is asked of all.
use Rattle.std.proofs.Common.{[], sym, subst, arith}
use Rattle.std.proofs.KnownBytes.{Consumes-nil, Consumes-trans, Keeps-refl}
use Rattle.stdio.proofs.filter.run.Goals as goal

pub reads-init : goal.reads-init
reads-init g c = λ h. ([], h, Consumes-nil _, Keeps-refl _)

pub reads-preserved : goal.reads-preserved
reads-preserved g c = λ h.
    let (bytes, has, handed, printed) = c.reads.invariant h in
    let behind = rw (c.in-Some.is, c.kept.ensures) at c.in_ok-end.ensures.behind in
    let came = rw (c.in-Some.is, c.kept.ensures) at c.in_ok-end.ensures.bytes in
    (_, c.advance.ensures bytes (subst (g.F.Filter.has_taken c.reads.filter bytes) (sym behind.front) has) (omega (arith, behind.answer.0)), Consumes-trans _ _ _ _ _ handed came, printed)
