-- `pieces::keep` meets its contract: as many bytes are moved as are counted.
-- Assumes nothing.
use Rattle.std.proofs.Common.{ℕ, ◌∙◌, List, ◌++◌, length, drop, ap, sym}
use Rattle.memory.specs.Bytes.{longest}
use Rattle.pieces.specs.Block.{fronted}
use Rattle.pieces.proofs.Block.{copied, rest_none, rest_length, rest_front}
use Rattle.pieces.proofs.keep.Goals as goal

pub returns-then-last-from-clause-count : goal.returns-then-last-from-clause-count
returns-then-last-from-clause-count c =
    let a = c.args in
    ap length (sym (rest_none a.buf.now a.from a.end c.min-last.result c.min-last.ensures c.if-last-from.true))

pub returns-then-last-from-clause-slice : goal.returns-then-last-from-clause-slice
unfolding fronted
returns-then-last-from-clause-slice c =
    let a = c.args in
    ap (λ (front : List ℕ). front ++ drop (length front) a.buf.now) (sym (rest_none a.buf.now a.from a.end c.min-last.result c.min-last.ensures c.if-last-from.true))

pub returns-clause-count : goal.returns-clause-count
unfolding longest
returns-clause-count c =
    let a = c.args in
    rest_length a.buf.now a.from a.end c.min-last.result c.min-last.ensures c.min-count.result c.if-last-from.false c.min-count.ensures

pub returns-clause-slice : goal.returns-clause-slice
unfolding longest
returns-clause-slice c =
    let a = c.args in
    c.copy_within.ensures.after
    ∙ copied a.buf.now a.from c.min-count.result
    ∙ rest_front a.buf.now a.from a.end c.min-last.result c.min-last.ensures c.min-count.result c.if-last-from.false c.min-count.ensures
