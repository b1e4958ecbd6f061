-- `filler::fill_rows` meets its contract.
-- Assumes nothing.
use Prim.Native.Nat.{◌+◌, ◌*◌, ◌≤◌}
use native.Mathlib.Omega.{arith}
use mathlib.Core.Path.{sym}
use lib.ListN.{length}
use Rattle.field.specs.Moduli.{modulus_of}
use lib.Seq.{length-take-le}
use Rattle.runs.specs.Filler.{inputs_in, room}
use Rattle.filler.specs.Write.{used_words}
use Rattle.filler.proofs.Whole.{used_blank, used_filled}
use Rattle.filler.proofs.fill_rows.Goals as goal

pub slice_bounds-fill_within-end : goal.slice_bounds-fill_within-end
unfolding room
slice_bounds-fill_within-end c = omega (arith, c.clear.auto, c.requires.scratch_room)

pub slice_bounds-fill_within-end-2 : goal.slice_bounds-fill_within-end-2
unfolding room
slice_bounds-fill_within-end-2 c = sym (length-take-le _ _ (omega (arith, c.clear.auto, c.requires.scratch_room)))

pub fill_within-requires : goal.fill_within-requires
unfolding room used_words
fill_within-requires c =
    let t = c.args.trace in
    let fits : t.n + 2 * t.t ≤ length c.args.scratch.now = omega (arith, c.requires.scratch_room) in
    record {
      proper = c.requires.proper;
      out_room = c.requires.out_room;
      scratch_used = length-take-le (t.n + 2 * t.t) c.clear.new.words (omega (arith, c.clear.auto, fits));
      blank = used_blank (t.n + 2 * t.t) c.args.scratch.now c.clear.new.words c.clear.ensures fits;
    }

pub returns : goal.returns
unfolding room
returns c =
    let t = c.args.trace in
    used_filled (modulus_of c.args.field) t.memory t.t (inputs_in t.inits.now) (inputs_in t.ops.now) c.args.out.now c.args.scratch.now c.clear.new.words (t.n + 2 * t.t) c.clear.ensures (omega (arith, c.requires.scratch_room))
    c.fill_within.new.out c.fill_within.new.scratch c.fill_within.result c.fill_within.ensures
