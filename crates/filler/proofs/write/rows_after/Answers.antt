-- `filler::write::rows_after` meets its contract.
-- Assumes nothing.
use Prim.Native.Nat.{ℕ, ◌+◌, ◌*◌}
use native.Mathlib.Omega.{arith}
use mathlib.Core.Path.{◌≡◌, sym, ap, ◌∙◌}
use lib.ListN.{length, drop, length-drop}
use Rattle.filler.specs.Ends.{ending}
use Rattle.layout.specs.Laid.{laid}
use Rattle.filler.specs.Write.{width_of}
use Rattle.layout.proofs.Laid.{laid_lent}
use Rattle.filler.proofs.EndRows.{ending_room}
use Rattle.filler.proofs.write.rows_after.Goals as goal

pub overflow_add-result : goal.overflow_add-result
overflow_add-result c =
    let out = c.operations-at.new.out in
    let s = c.operations-at.new.scratch in
    let few = ending_room c.args.trace.memory (width_of c.args.trace.memory c.args.trace.n c.args.trace.t) c.args.trace.t c.operations-at.result c.args.trace.inits.now c.args.trace.ops.now s (drop (7 * c.args.trace.t) out) c.operations-at.ensures.fits in
    let count : c.finish.result ≡ length (ending c.args.trace.memory (width_of c.args.trace.memory c.args.trace.n c.args.trace.t) c.args.trace.t c.operations-at.result c.args.trace.inits.now c.args.trace.ops.now s) =
    c.finish.ensures.count ∙ ap (λ (w : ℕ). length (ending c.args.trace.memory w c.args.trace.t c.operations-at.result c.args.trace.inits.now c.args.trace.ops.now s)) c.args.trace.wide in
    omega (arith, few, count, length-drop (7 * c.args.trace.t) out, c.operations-at.auto, c.well_formed, c.requires.fillable)

pub returns : goal.returns
returns c =
    let out = c.operations-at.new.out in
    let s = c.operations-at.new.scratch in
    let few = ending_room c.args.trace.memory (width_of c.args.trace.memory c.args.trace.n c.args.trace.t) c.args.trace.t c.operations-at.result c.args.trace.inits.now c.args.trace.ops.now s (drop (7 * c.args.trace.t) out) c.operations-at.ensures.fits in
    let count : c.finish.result ≡ length (ending c.args.trace.memory (width_of c.args.trace.memory c.args.trace.n c.args.trace.t) c.args.trace.t c.operations-at.result c.args.trace.inits.now c.args.trace.ops.now s) =
    c.finish.ensures.count ∙ ap (λ (w : ℕ). length (ending c.args.trace.memory w c.args.trace.t c.operations-at.result c.args.trace.inits.now c.args.trace.ops.now s)) c.args.trace.wide in record {
      rows = laid_lent out _ (7 * c.args.trace.t) (ending c.args.trace.memory c.args.trace.width c.args.trace.t c.operations-at.result c.args.trace.inits.now c.args.trace.ops.now s) (omega (arith, c.operations-at.auto, c.requires.fillable.out_room)) c.finish.ensures.rows
          ∙ ap (λ (w : ℕ). laid out (7 * c.args.trace.t) (ending c.args.trace.memory w c.args.trace.t c.operations-at.result c.args.trace.inits.now c.args.trace.ops.now s)) c.args.trace.wide
          ∙ sym c.operations-at.ensures.whole;
      count = ap (λ (e : ℕ). c.args.trace.t + e) c.finish.ensures.count
          ∙ ap (λ (w : ℕ). c.args.trace.t + length (ending c.args.trace.memory w c.args.trace.t c.operations-at.result c.args.trace.inits.now c.args.trace.ops.now s)) c.args.trace.wide
          ∙ sym c.operations-at.ensures.counted;
      room = omega (arith, few, count, length-drop (7 * c.args.trace.t) out, c.operations-at.auto, c.well_formed, c.requires.fillable);
    }
