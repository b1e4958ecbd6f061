-- What a write takes of the rest of the text follows what was written before.
use Rattle.std.proofs.Common.{◌≡◌, ℕ, ◌+◌, ◌-◌, ◌++◌, rules, List, length, take, drop, sym, ap, ◌∙◌, subst}
use Rattle.std.proofs.lemmas.List.{take_rest}
use Rattle.std.specs.Io.KnownBytes.{Appends}
use Rattle.std.proofs.KnownBytes.{Appends-trans}
use lib.Seq.{take-add}
use Rattle.stdio.proofs.write_whole.Goals as goal

more_taken : (text : List ℕ) (done more : ℕ) → take done text ++ take more (take (length text - done) (drop done text)) ≡ take (done + more) text
more_taken text done more =
    ap (λ l. take done text ++ take more l) (take_rest text done) ∙ sym (take-add done more text)

pub loop-done-preserved : goal.loop-done-preserved
loop-done-preserved g c =
    let (within, appended) = c.loop-done.invariant in
    (search rules, subst (Appends _ _) (more_taken c.args.text.now c.loop-done.done c.in_ok-more.more) (Appends-trans _ _ _ _ _ appended c.in_ok-more.ensures.bytes))
