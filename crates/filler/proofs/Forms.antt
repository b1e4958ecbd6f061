-- What a row without fault is, by its words.
--     form_ram … form_init    the op, and the guard, of a row without fault
-- Assumes nothing.
use Prim.Native.Nat.{ℕ, ◌≤◌}
use native.Mathlib.Omega.{arith}
use mathlib.Core.Bool.{Bool, true, false, cond, ◌||◌, ◌&&◌}
use mathlib.Core.Logic.{◌⊎◌, inl, inr}
use mathlib.Core.Path.{◌≡◌, refl, sym, ◌∙◌}
use mathlib.Core.List.{List, [], ◌∷◌}
use lib.Dec.{eqb}
use borrow.Author.Tests.{eqb-true, leb-true}
use Rattle.memory.specs.declared.Memory.{Memory}
use Rattle.memory.specs.declared.Memory.TheVariants.{Ram, Rom, Set, Stack, Queue}
use Rattle.memory.specs.declared.Op.{Op}
use Rattle.memory.specs.declared.Phase.TheVariants.{Starting, Operating}
use Rattle.memory.specs.Names.{op_code, is_op, op_coded}
use Rattle.memory.specs.Bytes.{all_below}
use Rattle.memory.specs.Rows.{ops_due, op_in, formed}
use Rattle.runs.specs.Honest.{Input, bare, filled_row}
use Rattle.runs.specs.Filler.{input_fault}
use Rattle.faults.specs.Scan.{init_fault}
use Rattle.faults.proofs.Codes.{is_coded, input}

form_sound : (q : ℕ) (m : Memory) (ops : List Op) (i : Input) → input_fault q m ops i ≡ 0 → (op_in i.op ops ≡ true) × (formed m (bare i) ≡ true)
unfolding input_fault
form_sound q m ops i = go (all_below q (i.guard ∷ i.addr ∷ i.value ∷ [])) (op_in i.op ops) (formed m (bare i))
  where
    go : (a b c : Bool) → ◌≡◌ {A = ℕ} (cond a (cond b (cond c 0 6) 5) 3) 0 → (b ≡ true) × (c ≡ true)
    go true true true e = (refl, refl)
    go true true false e = absurd (omega (arith, e))
    go true false c e = absurd (omega (arith, e))
    go false b c e = absurd (omega (arith, e))

or_false_true : (b : Bool) → (b || false) ≡ true → b ≡ true
or_false_true true e = refl
or_false_true false e = e

one_op : (o c : ℕ) → c ≤ 9 → (eqb (op_code (op_coded o)) c || false) ≡ true → o ≡ c
one_op o c h e = eqb-true o c (sym (is_coded o c h) ∙ or_false_true _ e)

two_ops : (o c d : ℕ) → c ≤ 9 → d ≤ 9 → (eqb (op_code (op_coded o)) c || (eqb (op_code (op_coded o)) d || false)) ≡ true → (o ≡ c) ⊎ (o ≡ d)
two_ops o c d h h' e = go (eqb (op_code (op_coded o)) c) refl e
  where
    go : (b : Bool) → eqb (op_code (op_coded o)) c ≡ b → (b || (eqb (op_code (op_coded o)) d || false)) ≡ true → (o ≡ c) ⊎ (o ≡ d)
    go true t f = inl (eqb-true o c (sym (is_coded o c h) ∙ t))
    go false t f = inr (one_op o d h' f)

and_first : (a b : Bool) → (a && b) ≡ true → a ≡ true
and_first true b e = refl
and_first false b e = e

-- an operation without fault has an op that is due, and a guard of 0 or 1
module _ (o g a v : ℕ) where
  pub record Formed (m : Memory) : Type 0 where
    pub modulus : ℕ
    pub none : input_fault modulus m (ops_due m Operating) (input o g a v) ≡ 0

  due : (m : Memory) → Formed m → op_in (op_coded o) (ops_due m Operating) ≡ true
  due m e = (form_sound e.modulus m (ops_due m Operating) (input o g a v) e.none).0

  pub form_guard : (m : Memory) → Formed m → g ≤ 1
  unfolding formed bare filled_row
  form_guard m e = leb-true g 1 (and_first _ _ (and_first _ _ (form_sound e.modulus m (ops_due m Operating) (input o g a v) e.none).1))

  pub form_ram : Formed Ram → o ≡ 1
  unfolding ops_due op_in is_op op_code
  form_ram e = one_op o 1 (omega arith) (due Ram e)

  pub form_rom : Formed Rom → o ≡ 2
  unfolding ops_due op_in is_op op_code
  form_rom e = one_op o 2 (omega arith) (due Rom e)

  pub form_set : Formed Set → o ≡ 3
  unfolding ops_due op_in is_op op_code
  form_set e = one_op o 3 (omega arith) (due Set e)

  pub form_stack : Formed Stack → (o ≡ 4) ⊎ (o ≡ 5)
  unfolding ops_due op_in is_op op_code
  form_stack e = two_ops o 4 5 (omega arith) (omega arith) (due Stack e)

  pub form_queue : Formed Queue → (o ≡ 6) ⊎ (o ≡ 7)
  unfolding ops_due op_in is_op op_code
  form_queue e = two_ops o 6 7 (omega arith) (omega arith) (due Queue e)

  pub form_init : (q : ℕ) → init_fault q (input o g a v) ≡ 0 → o ≡ 0
  unfolding init_fault ops_due op_in is_op op_code
  form_init q e = one_op o 0 (omega arith) (form_sound q Ram (ops_due Ram Starting) (input o g a v) e).0
