-- `filler::write::operations` meets its contract. The invariant of its loop: a run of so many
-- operations.
-- Assumes nothing.
use Prim.Native.Nat.{ℕ}
use native.Mathlib.Omega.{arith}
use mathlib.Core.Path.{◌≡◌, refl, sym, subst}
use Rattle.filler.specs.Write.{width_of}
use Rattle.filler.proofs.Onward.{Given}
use Rattle.filler.proofs.Progress.{Progress, Wide, wide, given_of_lem, progress_start, progress_ready, progress_stepped, progress_ended}
use Rattle.filler.proofs.write.operations.Goals as goal

pub loop-k-init : goal.loop-k-init
loop-k-init c =
    let is : width_of c.args.trace.memory c.args.trace.n c.args.trace.t ≡ c.args.trace.width = sym c.args.trace.wide in (
      refl,
      subst (λ (w : ℕ). Given w c.args.trace.t c.args.trace.ops.now c.args.out.now) is (given_of_lem c.args.trace.memory c.args.trace.n c.args.trace.t c.args.trace.inits.now c.args.trace.ops.now c.args.out.now c.args.scratch.now c.args.trace.operating c.requires.fillable),
      subst (λ (w : ℕ). Wide c.args.trace.memory w c.args.trace.t c.args.trace.inits.now) is (wide c.args.trace.memory c.args.trace.n c.args.trace.t c.args.trace.inits.now c.args.trace.starting),
      subst (λ (w : ℕ). Progress c.args.trace.memory w c.args.trace.t c.args.trace.inits.now c.args.trace.ops.now c.args.out.now 0 (record { clock = 1; head = 0; tail = 0 }) c.args.out.now c.args.scratch.now) is
          (progress_start c.args.trace.memory c.args.trace.n c.args.trace.t c.args.trace.inits.now c.args.trace.ops.now c.args.out.now c.args.scratch.now c.args.trace.starting c.requires.fillable c.requires.prepared),
    )

pub step-at-requires : goal.step-at-requires
step-at-requires c =
    let inv = c.loop-k.invariant in
    progress_ready c.args.trace.memory c.args.trace.width c.args.trace.t c.args.trace.inits.now c.args.trace.ops.now c.args.out.now inv.1 inv.2 c.loop-k.k c.loop-k.at c.loop-k.out c.loop-k.scratch inv.3 c.loop-k-test.true

pub loop-k-preserved : goal.loop-k-preserved
loop-k-preserved c =
    let inv = c.loop-k.invariant in (
      omega arith,
      inv.1,
      inv.2,
      progress_stepped c.args.trace.memory c.args.trace.width c.args.trace.t c.args.trace.inits.now c.args.trace.ops.now c.args.out.now inv.1 inv.2 c.loop-k.k c.loop-k.at c.loop-k.out c.loop-k.scratch inv.3 c.loop-k-test.true _ _ _ c.step-at.ensures.turned c.step-at.ensures.next,
    )

pub returns : goal.returns
returns c =
    let inv = c.loop-k.invariant in
    let is : c.args.trace.width ≡ width_of c.args.trace.memory c.args.trace.n c.args.trace.t = c.args.trace.wide in
    let done : c.loop-k.k ≡ c.args.trace.t = omega arith in
    progress_ended c.args.trace.memory c.args.trace.n c.args.trace.t c.args.trace.inits.now c.args.trace.ops.now c.args.out.now
    (subst (λ (w : ℕ). Given w c.args.trace.t c.args.trace.ops.now c.args.out.now) is inv.1)
    (subst (λ (w : ℕ). Wide c.args.trace.memory w c.args.trace.t c.args.trace.inits.now) is inv.2)
    c.loop-k.at
    c.loop-k.out
    c.loop-k.scratch
    (subst (λ (w : ℕ). Progress c.args.trace.memory w c.args.trace.t c.args.trace.inits.now c.args.trace.ops.now c.args.out.now c.args.trace.t c.loop-k.at c.loop-k.out c.loop-k.scratch) is
    (subst (λ (k : ℕ). Progress c.args.trace.memory c.args.trace.width c.args.trace.t c.args.trace.inits.now c.args.trace.ops.now c.args.out.now k c.loop-k.at c.loop-k.out c.loop-k.scratch) done inv.3))
