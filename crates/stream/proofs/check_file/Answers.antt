-- `stream::check_file` meets its contract.
-- Assumes nothing.
use Prim.Native.Nat.{ℕ, ◌-◌, ◌≤◌}
use native.Mathlib.Omega.{arith}
use mathlib.Core.Path.{◌∙◌, ap}
use mathlib.Core.List.{List}
use lib.ListN.{length, drop, length-drop}
use lib.Seq.{take_all}
use Rattle.field.specs.Moduli.{modulus_of}
use Rattle.memory.specs.Pieces.{piece}
use Rattle.memory.specs.Stream.{finish_of}
use Rattle.stream.proofs.File.{whole_file}
use Rattle.stream.proofs.check_file.Goals as goal

pub returns : goal.returns
returns c =
    let a = c.args in
    let file = a.file.now in
    let taken = c.lines_in-taken in
    let start = c.start-begun in
    let used = taken.result.used in
    let all : length (drop used file) ≤ length file - used = omega (arith, length-drop used file) in
    c.report.ensures
    ∙ ap (λ (t : List ℕ). finish_of (modulus_of a.field) (piece taken.result.known t)) (take_all (length file - used) (drop used file) all)
    ∙ whole_file _ file start.result start.ensures.progress taken.result.known used taken.ensures
