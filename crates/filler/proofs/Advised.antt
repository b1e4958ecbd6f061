-- An operation by the words of its row.
--     told_next       the cursor that its advice holds is the one after it
--     ready_read      what it needs, by the row that was read
--     told_turned, told_advanced    its turn and the cursor after it, by the row that was read and the advice
-- Assumes nothing.
use Prim.Native.Nat.{ℕ, ◌-◌, ◌*◌}
use mathlib.Core.Bool.{Bool, true, false, cond}
use mathlib.Core.Path.{◌≡◌, refl, sym, ap, ◌∙◌, subst}
use mathlib.Core.List.{List, [], ◌∷◌}
use lib.Dec.{eqb}
use lib.ListN.{get_or}
use lib.Seq.{sets}
use Rattle.memory.specs.declared.Memory.{Memory}
use Rattle.memory.specs.declared.Memory.TheVariants.{Ram, Rom, Set, Stack, Queue}
use Rattle.words.specs.declared.Input.{Input}
use Rattle.words.specs.Inputs.{value_at, op_at, guard_at, addr_at, words_at}
use Rattle.words.specs.Cells.{content_in}
use Rattle.filler.specs.declared.steps.Cursor.{Cursor}
use Rattle.words.specs.declared.Advice.{Advice}
use Rattle.filler.specs.Steps.{told, counted, slot_of, top_word, pop_time, ram_told, rom_told, set_told, push_told, pushed, pop_told, popped, stack_told, stacked, enqueue_told, enqueued, dequeue_told, dequeued, queue_told, queued, Told, Advised, Turned, told_by, ReadyBy, turn, advanced, Ready}

pop_next : (w : ℕ) (at : Cursor) (g : ℕ) (inits ops s : List ℕ) → (pop_told w at g inits ops s).next ≡ popped at g
unfolding pop_told
pop_next w at g inits ops s = either (eqb g 1)
  where
    either : (b : Bool)
        → (cond b (told (content_in inits ops (at.tail - 1) (top_word at s)) (pop_time at s) (get_or s (slot_of w at.clock (pop_time at s)) 0) (popped at g) (counted s (slot_of w at.clock (pop_time at s))))
        (told 0 (at.clock - 1) (get_or s w 0) (popped at g) (counted s w))).next
        ≡ popped at g
    either true = refl
    either false = refl

pub told_next : (m : Memory) (w k : ℕ) (at : Cursor) (inits ops s : List ℕ)
    → (told_by m w k at (op_at ops k) (guard_at ops k) (addr_at ops k) (value_at ops k) inits ops s).next ≡ advanced m k at ops
unfolding told_by advanced ram_told rom_told set_told stack_told stacked push_told queue_told queued enqueue_told dequeue_told
told_next Ram w k at inits ops s = refl
told_next Rom w k at inits ops s = refl
told_next Set w k at inits ops s = refl
told_next Stack w k at inits ops s = go (eqb (op_at ops k) 4)
  where
    go : (b : Bool) → (cond b (push_told k at (guard_at ops k) s) (pop_told w at (guard_at ops k) inits ops s)).next ≡ cond b (pushed at (guard_at ops k)) (popped at (guard_at ops k))
    go true = refl
    go false = pop_next w at (guard_at ops k) inits ops s
told_next Queue w k at inits ops s = go (eqb (op_at ops k) 6)
  where
    go : (b : Bool) → (cond b (enqueue_told k at (guard_at ops k) s) (dequeue_told at (guard_at ops k) inits ops s)).next ≡ cond b (enqueued at (guard_at ops k)) (dequeued at (guard_at ops k))
    go true = refl
    go false = refl

module _ (m : Memory) (w k : ℕ) (at : Cursor) (inits ops s : List ℕ) (row : Input) (is : row ≡ words_at ops k) where
  abbrev told_of : Input → Told
  told_of r = told_by m w k at r.op r.guard r.addr r.value inits ops s

  pub ready_read : Ready m w k at inits ops s → ReadyBy m w k at row.op row.guard row.addr row.value inits s
  ready_read h = subst (λ (r : Input). ReadyBy m w k at r.op r.guard r.addr r.value inits s) (sym is) h

  pub told_turned : (advice : Advice) (next : Cursor) (s' : List ℕ) → Advised (told_of row) advice next s' → (out out' : List ℕ)
      → out' ≡ sets out (7 * k) (row.op ∷ row.guard ∷ row.addr ∷ row.value ∷ advice.old ∷ advice.time ∷ advice.version ∷ [])
      → Turned k (turn m w k at inits ops s) out out' s'
  unfolding turn
  told_turned advice next s' a out out' put =
      let told : advice ≡ (told_of (words_at ops k)).advice = a.told ∙ ap (λ (x : Input). (told_of x).advice) is in
      record {
        row = put ∙ (λ i. sets out (7 * k) ((is i).op ∷ (is i).guard ∷ (is i).addr ∷ (is i).value ∷ (told i).old ∷ (told i).time ∷ (told i).version ∷ []));
        kept = a.kept ∙ ap (λ (x : Input). (told_of x).scratch) is;
      }

  pub told_advanced : (advice : Advice) (next : Cursor) (s' : List ℕ) → Advised (told_of row) advice next s' → next ≡ advanced m k at ops
  told_advanced advice next s' a = a.later ∙ ap (λ (x : Input). (told_of x).next) is ∙ told_next m w k at inits ops s
