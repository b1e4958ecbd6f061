-- The ops that numbers stand for, and the fault of an init row.
--     coded           the number of the op that a number stands for
--     is_coded        whether an op that a number stands for is one of the ten, by the number
--     init_any        an init row has the same fault in every memory
-- Assumes nothing.
use Prim.Native.Nat.{ℕ, zero, suc, ◌≤◌}
use native.Mathlib.Omega.{arith}
use mathlib.Core.Bool.{Bool, true, false}
use mathlib.Core.Path.{◌≡◌, refl, sym, ap, ◌∙◌}
use mathlib.Core.List.{[], ◌∷◌}
use lib.Dec.{eqb, leb}
use borrow.Author.Tests.{ne_eqb, leb-true, leb-false}
use Rattle.memory.specs.declared.Memory.{Memory}
use Rattle.memory.specs.declared.Op.{Op}
use Rattle.memory.specs.declared.Op.TheVariants.{Init, Access, Look, Member, Push, Pop, Enqueue, Dequeue, End, Range, Other}
use Rattle.memory.specs.declared.Phase.TheVariants.{Starting}
use Rattle.memory.specs.Names.{op_code, is_op, op_coded}
use Rattle.memory.specs.Rows.{ops_due, op_in, formed, used, columns, used_or_zero}
use Rattle.runs.specs.Honest.{Input, bare, filled_row}
use Rattle.runs.specs.Filler.{input_fault}
use Rattle.words.specs.Inputs.{input_of}
use Rattle.faults.specs.Scan.{init_fault}

-- a number below 10 stands for an op of that number
pub coded : (o : ℕ) → o ≤ 9 → op_code (op_coded o) ≡ o
unfolding op_coded op_code
coded zero h = refl
coded (suc zero) h = refl
coded (suc (suc zero)) h = refl
coded (suc (suc (suc zero))) h = refl
coded (suc (suc (suc (suc zero)))) h = refl
coded (suc (suc (suc (suc (suc zero))))) h = refl
coded (suc (suc (suc (suc (suc (suc zero)))))) h = refl
coded (suc (suc (suc (suc (suc (suc (suc zero))))))) h = refl
coded (suc (suc (suc (suc (suc (suc (suc (suc zero)))))))) h = refl
coded (suc (suc (suc (suc (suc (suc (suc (suc (suc zero))))))))) h = refl
coded (suc (suc (suc (suc (suc (suc (suc (suc (suc (suc o)))))))))) h = absurd (omega arith)

-- any other stands for none
coded_other : (o : ℕ) → 10 ≤ o → op_coded o ≡ Other
unfolding op_coded
coded_other o h =
    simp
    (ne_eqb o 0 (λ e. omega arith), ne_eqb o 1 (λ e. omega arith), ne_eqb o 2 (λ e. omega arith), ne_eqb o 3 (λ e. omega arith), ne_eqb o 4 (λ e. omega arith), ne_eqb o 5 (λ e. omega arith), ne_eqb o 6 (λ e. omega arith), ne_eqb o 7 (λ e. omega arith), ne_eqb o 8 (λ e. omega arith), ne_eqb o 9 (λ e. omega arith))

-- whether a number stands for an op of a number below 10
pub is_coded : (o c : ℕ) → c ≤ 9 → eqb (op_code (op_coded o)) c ≡ eqb o c
unfolding op_code
is_coded o c h = go (leb o 9) refl
  where
    go : (b : Bool) → leb o 9 ≡ b → eqb (op_code (op_coded o)) c ≡ eqb o c
    go true e = ap (λ (x : ℕ). eqb x c) (coded o (leb-true o 9 e))
    go false e =
        let large : 10 ≤ o = leb-false o 9 e in
        ap (λ (x : Op). eqb (op_code x) c) (coded_other o large) ∙ ne_eqb 10 c (λ d. omega arith) ∙ sym (ne_eqb o c (λ d. omega arith))

-- the input row of four words
abbrev pub input : ℕ → ℕ → ℕ → ℕ → Input
input o g a v = input_of (record { op = o; guard = g; addr = a; value = v })

-- an init row has the same fault in every memory: no other op is due
pub init_any : (q : ℕ) (m : Memory) (i : Input) → input_fault q m (ops_due m Starting) i ≡ init_fault q i
unfolding init_fault input_fault ops_due op_in is_op op_code formed used columns used_or_zero bare filled_row
init_any q m i = go i.op i.guard i.addr i.value
  where
    go : (o : Op) (g a v : ℕ) → input_fault q m (Init ∷ []) (record { op = o; guard = g; addr = a; value = v }) ≡ init_fault q (record { op = o; guard = g; addr = a; value = v })
    go Init g a v = refl
    go Access g a v = refl
    go Look g a v = refl
    go Member g a v = refl
    go Push g a v = refl
    go Pop g a v = refl
    go Enqueue g a v = refl
    go Dequeue g a v = refl
    go End g a v = refl
    go Range g a v = refl
    go Other g a v = refl
