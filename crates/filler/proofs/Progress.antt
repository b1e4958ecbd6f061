-- A run of operations of any memory.
--     progress_start      before the first operation
--     progress_ready, progress_stepped    an operation is possible, and after it the run is one operation further
--     progress_ended      after all of them
-- Assumes nothing.
use Prim.Native.Nat.{ℕ, ◌+◌, ◌*◌, ◌≤◌, ◌<◌}
use native.Mathlib.Omega.{arith}
use mathlib.Core.Bool.{true}
use mathlib.Core.Path.{◌≡◌, refl, sym, subst}
use mathlib.Core.List.{List}
use lib.ListN.{length, drop, length-drop}
use lib.Seq.{sets}
use borrow.Author.Tests.{eqb-true}
use Rattle.memory.specs.declared.Memory.{Memory}
use Rattle.memory.specs.declared.Memory.TheVariants.{Ram, Rom, Set, Stack, Queue}
use Rattle.memory.specs.Rows.{sized}
use Rattle.runs.specs.Honest.{operations_filled}
use Rattle.runs.specs.Filler.{inputs_in}
use Rattle.filler.specs.declared.steps.Cursor.{Cursor}
use Rattle.index.specs.Values.{values_in}
use Rattle.filler.specs.Steps.{Turned, turn, advanced, Ready, told_by, ram_told, rom_told, set_told}
use Rattle.filler.specs.Ends.{ending, EndingFits}
use Rattle.filler.specs.Write.{width_of, used_words, Fillable, Prepared, Ended}
use Rattle.filler.proofs.Onward.{Given, Onward, Clean}
use Rattle.filler.proofs.RamRun.{RamRun, ram_start, ram_ready, ram_turn_lem, ram_ends_lem}
use Rattle.filler.proofs.RomRun.{RomRun, rom_start, rom_ready, rom_turn_lem, rom_ends_lem}
use Rattle.filler.proofs.SetRun.{SetRun, set_start, set_ready, set_turn_lem, set_ends}
use Rattle.filler.proofs.StackRun.{StackRun, stack_start, stack_ready, stack_turn_lem, stack_ends_lem}
use Rattle.filler.proofs.QueueRun.{QueueRun, queue_start, queue_ready, queue_turn_lem, queue_ends_lem}

abbrev pub Progress : Memory → ℕ → ℕ → List ℕ → List ℕ → List ℕ → ℕ → Cursor → List ℕ → List ℕ → Type 0
Progress Ram w t inits ops out₀ k at out s = RamRun w t inits ops out₀ k at.clock out s
Progress Rom w t inits ops out₀ k at out s = RomRun w t inits ops out₀ k out s
Progress Set w t inits ops out₀ k at out s = SetRun w t inits ops out₀ k out s
Progress Stack w t inits ops out₀ k at out s = StackRun w t inits ops out₀ k at out s
Progress Queue w t inits ops out₀ k at out s = QueueRun w t inits ops out₀ k at out s

-- what the width is
abbrev pub Wide : Memory → ℕ → ℕ → List ℕ → Type 0
Wide Ram w t inits = 4 * w ≡ length inits
Wide Rom w t inits = 4 * w ≡ length inits
Wide Set w t inits = 4 * w ≡ length inits
Wide Stack w t inits = w ≡ t
Wide Queue w t inits = w ≡ t

pub wide : (m : Memory) (n t : ℕ) (inits : List ℕ) → 4 * n ≡ length inits → Wide m (width_of m n t) t inits
unfolding width_of
wide Ram n t inits h = h
wide Rom n t inits h = h
wide Set n t inits h = h
wide Stack n t inits h = refl
wide Queue n t inits h = refl

pub given_of_lem : (m : Memory) (n t : ℕ) (inits ops out s : List ℕ) → 4 * t ≡ length ops → Fillable m n t inits ops out s → Given (width_of m n t) t ops out
unfolding width_of
given_of_lem m n t inits ops out s operating f = record { rows = operating; short = f.count; room = go m f.out_room }
  where
    go : (m : Memory) → 7 * (n + 3 * t) ≤ length out → 7 * (t + width_of m n t + t) ≤ length out
    go Ram h = omega arith
    go Rom h = omega arith
    go Set h = omega arith
    go Stack h = omega arith
    go Queue h = omega arith

-- where a memory has no size, its level starts at 0
empty : (n : ℕ) (m : Memory) (values : List ℕ) (ops : List ℕ) → n ≡ 0 → Clean m values n (inputs_in ops) → Clean m values 0 (inputs_in ops)
empty n m values ops e c = subst (λ (l : ℕ). Clean m values l (inputs_in ops)) e c

pub progress_start : (m : Memory) (n t : ℕ) (inits ops out s : List ℕ) → 4 * n ≡ length inits → Fillable m n t inits ops out s → Prepared m n inits s
    → Progress m (width_of m n t) t inits ops out 0 (record { clock = 1; head = 0; tail = 0 }) out s
unfolding width_of sized used_words
progress_start m n t inits ops out s starting f prepared = go m (record { modulus = f.modulus; place = n + 1; none = f.clean }) prepared f.allowed
  where
    words : length s ≡ n + 2 * t
    words = f.scratch_used

    go : (m : Memory) → Clean m (values_in inits) n (inputs_in ops) → Prepared m n inits s → sized m n ≡ true
        → Progress m (width_of m n t) t inits ops out 0 (record { clock = 1; head = 0; tail = 0 }) out s
    go Ram c h a = ram_start n t inits ops out s starting h (let r = words in omega arith) c
    go Rom c h a = rom_start n t inits ops out s h (let r = words in omega arith) c
    go Set c h a = set_start n t inits ops out s h c
    go Stack c h a = stack_start t t inits ops out s h (let r = words in omega arith) (empty n Stack (values_in inits) ops (eqb-true n 0 a) c)
    go Queue c h a = queue_start t t inits ops out s (let r = words in omega arith) (empty n Queue (values_in inits) ops (eqb-true n 0 a) c)

module _ (m : Memory) (w t : ℕ) (inits ops out₀ : List ℕ) (given : Given w t ops out₀) (is : Wide m w t inits) (k : ℕ) (at : Cursor) (out s : List ℕ) (run : Progress m w t inits ops out₀ k at out s) where
  pub progress_ready : k < t → Ready m w k at inits ops s
  progress_ready more = go m is run
    where
      go : (m : Memory) → Wide m w t inits → Progress m w t inits ops out₀ k at out s → Ready m w k at inits ops s
      go Ram h r = record { low = omega (arith, given.short); early = omega (arith, r.timed, given.short); ready = ram_ready w t inits ops out₀ given k at.clock out s r more }
      go Rom h r = rom_ready w t inits ops out₀ given h k out s r more
      go Set h r = set_ready w t inits ops out₀ given h k out s r more
      go Stack h r = stack_ready w t inits ops out₀ given h k at out s r more
      go Queue h r = queue_ready w t inits ops out₀ given h k at out s r more

  progress_turn : k < t → Progress m w t inits ops out₀ (k + 1) (advanced m k at ops) (sets out (7 * k) (turn m w k at inits ops s).words) (turn m w k at inits ops s).scratch
  unfolding turn advanced told_by ram_told rom_told set_told
  progress_turn more = go m is run
    where
      go : (m : Memory) → Wide m w t inits → Progress m w t inits ops out₀ k at out s
          → Progress m w t inits ops out₀ (k + 1) (advanced m k at ops) (sets out (7 * k) (turn m w k at inits ops s).words) (turn m w k at inits ops s).scratch
      go Ram h r = ram_turn_lem w t inits ops out₀ given k at.clock out s r more
      go Rom h r = rom_turn_lem w t inits ops out₀ given h k out s r more
      go Set h r = set_turn_lem w t inits ops out₀ given h k out s r more
      go Stack h r = stack_turn_lem w t inits ops out₀ given h k at out s r more
      go Queue h r = queue_turn_lem w t inits ops out₀ given h k at out s r more

  -- after an operation that left what its turn says
  pub progress_stepped : k < t → (out' s' : List ℕ) (next : Cursor) → Turned k (turn m w k at inits ops s) out out' s' → next ≡ advanced m k at ops
      → Progress m w t inits ops out₀ (k + 1) next out' s'
  progress_stepped more out' s' next turned e =
      subst (λ (x : Cursor). Progress m w t inits ops out₀ (k + 1) x out' s') (sym e)
      (subst (λ (x : List ℕ). Progress m w t inits ops out₀ (k + 1) (advanced m k at ops) x s') (sym turned.row)
      (subst (λ (x : List ℕ). Progress m w t inits ops out₀ (k + 1) (advanced m k at ops) (sets out (7 * k) (turn m w k at inits ops s).words) x) (sym turned.kept) (progress_turn more)))

-- the rows that the scratch words give after all operations, and that they have room
module _ (w t : ℕ) (inits ops out₀ : List ℕ) (given : Given w t ops out₀) (at : Cursor) (out s : List ℕ) where
  progress_ends : (m : Memory) → Wide m w t inits → Progress m w t inits ops out₀ t at out s
      → Onward (operations_filled m t (values_in inits) (inputs_in ops)) (ending m w t at inits ops s) t out₀ out
  unfolding ending
  progress_ends Ram h r = ram_ends_lem w t inits ops out₀ at.clock out s given r
  progress_ends Rom h r = rom_ends_lem w t inits ops out₀ out s given h r
  progress_ends Set h r = set_ends w t inits ops out₀ out s given h r
  progress_ends Stack h r = stack_ends_lem w t inits ops out₀ at out s given r
  progress_ends Queue h r = queue_ends_lem w t inits ops out₀ at out s given r

  left : length out ≡ length out₀ → 7 * (w + t) ≤ length (drop (7 * t) out)
  left l = let r = given.room in omega (arith, length-drop (7 * t) out)

  progress_fits : (m : Memory) → Wide m w t inits → Progress m w t inits ops out₀ t at out s → EndingFits m w t at inits s (drop (7 * t) out)
  progress_fits Ram h r = record { within = omega arith; held = r.roomy; room = left r.onward.long }
  progress_fits Rom h r = record { count = h; held = r.roomy; room = let q = left r.onward.long in omega arith }
  progress_fits Set h r = record { count = h; held = r.tree.room; room = let q = left r.onward.long in omega arith }
  progress_fits Stack h r =
      let i = r.within in
      record { within = omega arith; held = r.roomy; room = let q = left r.onward.long in omega arith }
  progress_fits Queue h r =
      let i = r.within in
      record { order = let e = r.held in omega arith; within = omega arith; held = let q = r.roomy in omega arith; room = let q = left r.onward.long in omega arith }

pub progress_ended : (m : Memory) (n t : ℕ) (inits ops out₀ : List ℕ) → Given (width_of m n t) t ops out₀ → Wide m (width_of m n t) t inits → (at : Cursor) (out s : List ℕ)
    → Progress m (width_of m n t) t inits ops out₀ t at out s → Ended m n t inits ops out₀ out s at
progress_ended m n t inits ops out₀ given is at out s run =
    let o = progress_ends (width_of m n t) t inits ops out₀ given at out s m is run in
    record { whole = o.whole; counted = o.counted; fits = progress_fits (width_of m n t) t inits ops out₀ given at out s m is run }
