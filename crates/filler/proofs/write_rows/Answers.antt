-- `filler::write_rows` meets its contract.
-- Assumes nothing.
use Prim.Native.Nat.{◌*◌}
use native.Mathlib.Omega.{arith}
use mathlib.Core.List.{map}
use mathlib.Core.Path.{◌≡◌, ◌∙◌}
use lib.ListN.{length, length-append, length-map}
use Rattle.runs.specs.Honest.{bare, filled_rows, operations_filled}
use Rattle.runs.specs.Filler.{inputs_in}
use Rattle.index.specs.Values.{values_in}
use Rattle.filler.proofs.Inputs.{inputs_count}
use Rattle.layout.proofs.Laid.{laid_handed_on}
use Rattle.filler.proofs.write_rows.Goals as goal

pub returns-clause-rows : goal.returns-clause-rows
unfolding filled_rows values_in
returns-clause-rows c =
    let t = c.args.trace in
    let is = inputs_in t.inits.now in
    let more = operations_filled t.memory t.t (values_in t.inits.now) (inputs_in t.ops.now) in
    let count : length (map bare is) ≡ t.n = length-map is bare ∙ inputs_count t.inits.now t.n t.starting in
    laid_handed_on c.args.out.now c.copy_inits.new.out c.rows_after-more.new.out (7 * t.n) (map bare is) more c.copy_inits.ensures (omega arith) c.requires.out_room c.rows_after-more.ensures.rows

pub returns-clause-count : goal.returns-clause-count
unfolding filled_rows values_in
returns-clause-count c =
    let t = c.args.trace in
    let is = inputs_in t.inits.now in
    let more = operations_filled t.memory t.t (values_in t.inits.now) (inputs_in t.ops.now) in
    let count : length (map bare is) ≡ t.n = length-map is bare ∙ inputs_count t.inits.now t.n t.starting in
    omega (arith, c.rows_after-more.ensures.count, length-append (map bare is) more, count)
