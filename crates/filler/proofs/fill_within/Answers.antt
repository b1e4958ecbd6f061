-- `filler::fill_within` meets its contract.
-- Assumes nothing.
use Prim.Native.Nat.{ℕ, ◌*◌}
use native.Mathlib.Omega.{arith}
use mathlib.Core.Path.{sym, ap, ◌∙◌}
use lib.ListN.{replicate, length-drop}
use Rattle.field.specs.Moduli.{modulus_of}
use Rattle.runs.specs.Filler.{inputs_in, room, Placed, placed}
use Rattle.index.specs.Values.{values_in}
use Rattle.filler.specs.Write.{used_words}
use Rattle.filler.proofs.Inputs.{inputs_count, values_count}
use Rattle.filler.proofs.Clean.{clean_inits, clean_operations}
use Rattle.filler.proofs.Whole.{sized_limit, allowed_size, allowed_count, refused_is, filled_is}
use Rattle.filler.proofs.fill_within.Goals as goal

pub first_fault-requires : goal.first_fault-requires
unfolding used_words
first_fault-requires c =
    let t = c.args.trace in
    let size = allowed_size t.memory t.n t.t c.requires.proper in
    record {
      unprepared = record { few = sized_limit t.memory t.n size; room = omega (arith, c.requires.scratch_used); blank = c.requires.blank };
      allowed = size;
    }

pub returns-in-Err : goal.returns-in-Err
unfolding values_in
returns-in-Err c =
    let t = c.args.trace in
    refused_is (modulus_of c.args.field) t.memory t.t (inputs_in t.inits.now) (inputs_in t.ops.now) c.args.out.now c.args.scratch.now _ _ c.in-Err.refused
    c.in-Err.ensures.fault c.clear_both.ensures.output
    (c.clear_both.ensures.scratch ∙ ap (λ (k : ℕ). replicate k 0) c.first_fault.auto.scratch)

pub write_rows-requires : goal.write_rows-requires
unfolding room used_words placed
write_rows-requires c =
    let t = c.args.trace in
    let inits = t.inits.now in
    let size = allowed_size t.memory t.n t.t c.requires.proper in
    let values = values_count inits t.n t.starting in
    let inputs = inputs_count inits t.n t.starting in
    let none = ap (λ (f : Placed). f.number) (sym c.in_default.ensures.fault) in
    record {
      clean_inits = record { modulus = modulus_of c.args.field; none = clean_inits _ t.memory (values_in inits) (inputs_in inits) (inputs_in t.ops.now) t.n values inputs size none };
      out_room = omega (arith, c.requires.out_room);
      fillable = record {
        size = sized_limit t.memory t.n size;
        count = allowed_count t.memory t.n t.t c.requires.proper;
        allowed = size;
        out_room = omega (arith, c.requires.out_room, length-drop (7 * t.n) c.args.out.now);
        scratch_used = omega (arith, c.first_fault.auto, c.requires.scratch_used);
        modulus = modulus_of c.args.field;
        clean = clean_operations _ t.memory (values_in inits) (inputs_in inits) (inputs_in t.ops.now) t.n values inputs size none;
      };
      prepared = c.in_default.ensures.prepared;
    }

pub returns : goal.returns
unfolding values_in placed
returns c =
    let t = c.args.trace in
    filled_is (modulus_of c.args.field) t.memory t.t (inputs_in t.inits.now) (inputs_in t.ops.now) c.args.out.now c.args.scratch.now _ _ c.write_rows.result
    (ap (λ (f : Placed). f.number) (sym c.in_default.ensures.fault)) c.write_rows.ensures.rows
    (c.write_rows.ensures.blank ∙ ap (λ (k : ℕ). replicate k 0) c.first_fault.auto.scratch) c.write_rows.ensures.count
