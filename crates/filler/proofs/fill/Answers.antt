-- `filler::fill` meets its contract.
-- Assumes nothing.
use Prim.Native.Nat.{ℕ}
use native.Mathlib.Omega.{arith}
use mathlib.Core.Path.{◌≡◌, sym, ap, subst, ◌∙◌}
use mathlib.Core.List.{List}
use Rattle.std.specs.Prelude.{Result, Err, Option, None, Some, ok_or}
use Rattle.memory.specs.declared.Memory.{Memory}
use Rattle.memory.specs.Names.{memory_coded}
use Rattle.std.proofs.lemmas.Result.{err_from_is_err_and}
use Rattle.field.specs.Moduli.{modulus_of}
use Rattle.memory.specs.declared.faults.Fault.{Fault}
use Rattle.memory.specs.declared.faults.Fault.TheVariants.{NotAllowed}
use Rattle.runs.specs.Filler.{Filling}
use Rattle.faults.specs.declared.Refused.{Refused}
use Rattle.filler.specs.Answer.{Fills}
use Rattle.filler.proofs.Whole.{fills_same, all_rows, parts_filled, roomy, away_unknown, away, not_away}
use Rattle.filler.proofs.fill.Goals as goal

-- what a `?` returns of a fault that is no row's
placeless : {f : Filling} {r : Result ℕ Refused} {out s : List ℕ} (fault : Fault) (x : Refused) → r ≡ Err x → x ≡ record { fault = fault; place = 0 }
    → Fills f (Err (record { fault = fault; place = 0 })) out s → Fills f r out s
placeless {f} {r} {out} {s} fault x e is all = subst (λ (a : Result ℕ Refused). Fills f a out s) (sym (e ∙ ap (λ (y : Refused). Err y) is)) all

-- the fault of an unknown memory
unknown : (o : Option Memory) (f : Fault) → Err f ≡ ok_or o NotAllowed → f ≡ NotAllowed
unknown None f e = cc
unknown (Some m) f e = absurd (cc)

pub returns-in_err-memory : goal.returns-in_err-memory
returns-in_err-memory c =
    let p = err_from_is_err_and c.from_residual.result c.from_residual.ensures.1 in
    let f = c.in_err-memory.field-0.0 in
    let is = p.2 ∙ ap (λ (f : Fault). record { fault = f; place = 0 }) (unknown (memory_coded c.args.memory) f c.in_err-memory.ensures) in
    let all = placeless NotAllowed p.0 p.1 is
    (away_unknown (modulus_of c.args.field) c.args.memory c.args.size c.args.count c.args.rows.now c.args.out.now c.args.scratch.now f c.in_err-memory.ensures) in
    record { answer = all.answer; output = all.output; words = all.words }

pub returns-in_err-turned_away : goal.returns-in_err-turned_away
returns-in_err-turned_away c =
    let p = err_from_is_err_and c.from_residual-in_err-turned_away.result c.from_residual-in_err-turned_away.ensures.1 in
    let all = placeless c.in_err-turned_away.field-0.0 p.0 p.1 p.2
    (away (modulus_of c.args.field) c.args.memory c.args.size c.args.count c.args.rows.now c.args.out.now c.args.scratch.now c.in_ok-memory.memory c.in_ok-memory.ensures c.in_err-turned_away.field-0.0 c.in_err-turned_away.ensures) in
    record { answer = all.answer; output = all.output; words = all.words }

pub split_at-requires : goal.split_at-requires
split_at-requires c = omega (arith, all_rows c.in_ok-memory.memory c.args.size c.args.count c.args.rows.now c.args.out.now c.args.scratch.now c.in_ok-turned_away.ensures)

pub invariant_of-trace : goal.invariant_of-trace
invariant_of-trace c =
    let all = all_rows c.in_ok-memory.memory c.args.size c.args.count c.args.rows.now c.args.out.now c.args.scratch.now c.in_ok-turned_away.ensures in
    record { starting = omega (arith, c.split_at.ensures.front_len); operating = omega (arith, all, c.split_at.ensures.back_len); wide = c.width_of.ensures }

pub fill_rows-requires : goal.fill_rows-requires
fill_rows-requires c = roomy c.in_ok-memory.memory c.args.size c.args.count c.args.rows.now c.args.out.now c.args.scratch.now c.in_ok-turned_away.ensures

pub returns : goal.returns
returns c =
    let m = c.in_ok-memory.memory in
    let away = c.in_ok-turned_away.ensures in
    let rows = c.args.rows.now in
    let parts = c.split_at.ensures in
    let all = fills_same (fills_same c.fill_rows.ensures
    (parts_filled rows _ _ c.args.size c.args.count parts.front parts.back (all_rows m c.args.size c.args.count rows c.args.out.now c.args.scratch.now away) (modulus_of c.args.field) m c.args.out.now c.args.scratch.now))
    (not_away (modulus_of c.args.field) c.args.memory c.args.size c.args.count rows c.args.out.now c.args.scratch.now m c.in_ok-memory.ensures away) in
    record { answer = all.answer; output = all.output; words = all.words }
