-- A run of pushes and pops: the sources and times of the cells lie in the scratch words, the top
-- last, and after them the lookups of each age.
--     stack_start     before the first operation
--     stack_ready, stack_turn_lem    an operation is possible, and after it the run is one operation further
--     stack_ends_lem      after all of them the scratch words give the end rows and range rows
-- Assumes nothing.
use Prim.Native.Nat.{ℕ, zero, suc, ◌+◌, ◌-◌, ◌*◌, ◌≤◌, ◌<◌}
use native.Mathlib.Omega.{arith}
use mathlib.Core.Bool.{Bool, true, false}
use mathlib.Core.Logic.{◌⊎◌, inl, inr}
use mathlib.Core.Path.{◌≡◌, refl, sym, ap, subst, ◌∙◌}
use mathlib.Core.List.{List, [], ◌∷◌, ◌++◌}
use lib.Dec.{eqb}
use lib.ListN.{length, get_or, set, drop, length-set, length-drop, drop_of_length-le}
use lib.Seq.{sets, get_or-set_same, get_or-set_other}
use borrow.Author.Tests.{eqb-true, eqb-false}
use Rattle.memory.specs.declared.Memory.TheVariants.{Stack}
use Rattle.memory.specs.declared.Row.{Row}
use Rattle.memory.specs.Names.{op_code, is_op}
use Rattle.runs.specs.Honest.{Cell, cell, cell_at, top_cell, filled_row, bare, end_row, range_rows_from, occurrences, stack_ends, pop_row, pop_time as honestTime, stack_from, operations_filled}
use Rattle.runs.specs.Filler.{inputs_in, row_numbers}
use Rattle.filler.specs.declared.steps.Cursor.{Cursor}
use Rattle.words.specs.Inputs.{value_at, op_at, guard_at, addr_at, input_at}
use Rattle.words.specs.Cells.{packed, time_in, content_in}
use Rattle.index.specs.Values.{values_in}
use Rattle.filler.specs.Words.{copied}
use Rattle.filler.specs.Steps.{Turn, made, turn_of, counted, Countable, top_word, pop_time, push_told, pushed, pop_told, popped, stack_told, stacked, StackReady}
use Rattle.filler.specs.Ends.{cell_ends, ranges}
use Rattle.faults.specs.Scan.{leveled}
use Rattle.filler.proofs.Inputs.{inputs_count}
use Rattle.faults.proofs.Codes.{is_coded}
use Rattle.filler.proofs.Forms.{form_stack, form_guard}
use Rattle.filler.proofs.Onward.{Given, Onward, onward_start, onward_next, onward_as, Clean, CleanTurn, clean_turn, held_stack, copied_words}
use Rattle.filler.proofs.Span.{below_span}
use Rattle.filler.proofs.Lies.{Lies, lies_packed}
use Rattle.filler.proofs.Counts.{occurrences_few, counts_turn, ranges_are}

-- the words stand for the cells from the top down, the lowest at 0, and the times are past
abbrev pub Stacked : List ℕ → List ℕ → ℕ → List ℕ → List Cell → Type 0
Stacked inits ops clock s [] = Unit {0}
Stacked inits ops clock s (c ∷ cells) = Lies inits ops (length cells) (get_or s (length cells) 0) c × (c.time < clock) × Stacked inits ops clock s cells

-- they do where they are as they were, and the clock is not earlier
stacked_kept : (inits ops : List ℕ) (clock clock' : ℕ) (s s' : List ℕ) (cells : List Cell) → ((j : ℕ) → j < length cells → get_or s' j 0 ≡ get_or s j 0)
    → clock ≤ clock' → Stacked inits ops clock s cells → Stacked inits ops clock' s' cells
stacked_kept inits ops clock clock' s s' [] c h held = tt
stacked_kept inits ops clock clock' s s' (x ∷ cells) c h held = (
  subst (λ (word : ℕ). Lies inits ops (length cells) word x) (sym (c (length cells) (omega arith))) held.0,
  omega (arith, held.1),
  stacked_kept inits ops clock clock' s s' cells (λ j l. c j (omega arith)) h held.2,
)

-- the turn of operation k
abbrev pub stack_turn : ℕ → ℕ → Cursor → List ℕ → List ℕ → List ℕ → Turn
stack_turn w k at inits ops s = turn_of ops k (stack_told w k at (op_at ops k) (guard_at ops k) inits ops s)

pub record StackRun (w t : ℕ) (inits ops out₀ : List ℕ) (k : ℕ) (at : Cursor) (out s : List ℕ) : Type 0 where
  pub cells : List Cell
  pub ages : List ℕ
  pub depth : length cells ≡ at.tail
  pub within : at.tail ≤ k
  pub held : Stacked inits ops at.clock s cells
  pub counts : (a : ℕ) → a < t → get_or s (w + a) 0 ≡ occurrences (suc a) ages
  pub looked : length ages ≤ k
  pub started : 1 ≤ at.clock
  pub early : at.clock ≤ k + 1
  pub roomy : w + t ≤ length s
  pub onward : Onward (operations_filled Stack t (values_in inits) (inputs_in ops)) (stack_from cells at.clock ages t (drop k (inputs_in ops))) k out₀ out
  pub clean : Clean Stack (values_in inits) (length cells) (drop k (inputs_in ops))

module _ (w t : ℕ) (inits ops out₀ : List ℕ) (given : Given w t ops out₀) (width : w ≡ t) (k : ℕ) (at : Cursor) (out s : List ℕ) (run : StackRun w t inits ops out₀ k at out s) (more : k < t) where
  stack_clean : CleanTurn Stack (values_in inits) (length run.cells) ops k
  stack_clean = clean_turn Stack (values_in inits) (length run.cells) ops k (let g = given.rows in omega arith) run.clean

  op_low : op_at ops k ≤ 9
  op_low = go (form_stack (op_at ops k) (guard_at ops k) (addr_at ops k) (value_at ops k) stack_clean.here.formed)
    where
      go : (op_at ops k ≡ 4) ⊎ (op_at ops k ≡ 5) → op_at ops k ≤ 9
      go (inl e) = omega arith
      go (inr e) = omega arith

  some : (op_at ops k ≡ 4 → ⊥) → guard_at ops k ≡ 1 → 0 < length run.cells
  some = held_stack (values_in inits) (length run.cells) (op_at ops k) (guard_at ops k) (addr_at ops k) (value_at ops k) stack_clean.here.possible

  -- the top cell, where there is one
  top : 0 < length run.cells → Lies inits ops (at.tail - 1) (top_word at s) (top_cell run.cells) × ((top_cell run.cells).time < at.clock)
  unfolding top_cell cell_at
  top h = go run.cells run.depth run.held h
    where
      go : (cells : List Cell) → length cells ≡ at.tail → Stacked inits ops at.clock s cells → 0 < length cells
          → Lies inits ops (at.tail - 1) (top_word at s) (get_or cells 0 (cell 0 0)) × ((get_or cells 0 (cell 0 0)).time < at.clock)
      go [] d held h = absurd (omega arith)
      go (c ∷ cells) d held h = (subst (λ (j : ℕ). Lies inits ops j (get_or s j 0) c) (omega_last (length cells) d) held.0, held.1)
        where
          omega_last : (n : ℕ) → suc n ≡ at.tail → n ≡ at.tail - 1
          omega_last n e = omega arith

  -- the slot of an age from 1 to t counts its lookups
  countable : (a : ℕ) → a < t → Countable s (w + a)
  countable a h = record {
    inside = let r = run.roomy in omega arith;
    low = omega (arith, run.counts a h, occurrences_few (suc a) run.ages, run.looked, given.short);
  }

  age_low : 0 < length run.cells → at.clock - pop_time at s - 1 < t
  age_low h =
      let l = top h in
      let e = run.early in
      omega (arith, l.0.time, l.1)

  pub stack_ready : StackReady w k at (op_at ops k) (guard_at ops k) s
  stack_ready =
      let d = run.depth in
      let i = run.within in
      let r = run.roomy in
      let e = run.early in
      let st = run.started in
      let g = given.short in
      record {
        push = λ _. record { low = omega arith; free = λ _. omega arith; early = omega arith };
        pop = λ n. record {
          started = st;
          first = subst (Countable s) (at_zero w) (countable 0 (omega arith));
          taken = λ one. let h : 0 < length run.cells = some n one in let l = top h in record {
            some = omega arith;
            within = omega arith;
            older = omega (arith, l.0.time, l.1);
            countable = countable (at.clock - pop_time at s - 1) (age_low h);
          };
        };
      }
    where
      at_zero : (b : ℕ) → b + 0 ≡ b
      at_zero b = omega arith

  -- the run after an operation that gives a row and leaves cells and ages
  advance : (cells' : List Cell) (ages' : List ℕ) (at' : Cursor) (row : Row) (ws s' : List ℕ)
      → stack_from run.cells at.clock run.ages t (input_at ops k ∷ drop (suc k) (inputs_in ops)) ≡ row ∷ stack_from cells' at'.clock ages' t (drop (suc k) (inputs_in ops))
      → ws ≡ row_numbers (row ∷ [])
      → leveled Stack (length run.cells) (op_at ops k) (guard_at ops k) ≡ length cells'
      → length cells' ≡ at'.tail
      → at'.tail ≤ k + 1
      → Stacked inits ops at'.clock s' cells'
      → ((a : ℕ) → a < t → get_or s' (w + a) 0 ≡ occurrences (suc a) ages')
      → length ages' ≤ k + 1
      → 1 ≤ at'.clock
      → at'.clock ≤ k + 2
      → length s' ≡ length s
      → StackRun w t inits ops out₀ (k + 1) at' (sets out (7 * k) ws) s'
  advance cells' ages' at' row ws s' e words level depth within held counts looked started early long = record {
    cells = cells';
    ages = ages';
    depth = depth;
    within = within;
    held = held;
    counts = counts;
    looked = looked;
    started = started;
    early = omega arith;
    roomy = subst (λ (n : ℕ). w + t ≤ n) (sym long) run.roomy;
    onward = onward_next w t ops given more (stack_from run.cells at.clock run.ages t) (stack_from cells' at'.clock ages' t) row ws run.onward e words;
    clean = subst (λ (l : ℕ). Clean Stack (values_in inits) l (drop (k + 1) (inputs_in ops))) level stack_clean.later;
  }

  -- the run after the next operation, where it is known what that does
  turned : (at' : Cursor) (turn : Turn) → stacked at (op_at ops k) (guard_at ops k) ≡ at' → stack_turn w k at inits ops s ≡ turn → StackRun w t inits ops out₀ (k + 1) at' (sets out (7 * k) turn.words) turn.scratch
      → StackRun w t inits ops out₀ (k + 1) (stacked at (op_at ops k) (guard_at ops k)) (sets out (7 * k) (stack_turn w k at inits ops s).words) (stack_turn w k at inits ops s).scratch
  turned at' turn e f r =
      subst (λ (x : Turn). StackRun w t inits ops out₀ (k + 1) (stacked at (op_at ops k) (guard_at ops k)) (sets out (7 * k) x.words) x.scratch) (sym f)
      (subst (λ (x : Cursor). StackRun w t inits ops out₀ (k + 1) x (sets out (7 * k) turn.words) turn.scratch) (sym e) r)

  -- the words after an executed push
  s₁ : List ℕ
  s₁ = set s at.tail (packed (k + 1) at.clock)

  pushed_kept : (j : ℕ) → (j ≡ at.tail → ⊥) → get_or s₁ j 0 ≡ get_or s j 0
  unfolding s₁
  pushed_kept j a = get_or-set_other s at.tail j (packed (k + 1) at.clock) 0 a

  pushed_held : Stacked inits ops (at.clock + 1) s₁ (cell (value_at ops k) at.clock ∷ run.cells)
  unfolding s₁ cell
  pushed_held =
      let d = run.depth in
      let i = run.within in
      let r = run.roomy in
      let word : get_or s₁ (length run.cells) 0 ≡ packed (k + 1) at.clock =
      ap (λ (j : ℕ). get_or s₁ j 0) run.depth ∙ get_or-set_same s at.tail (packed (k + 1) at.clock) 0 (omega arith) in (
        subst (λ (x : ℕ). Lies inits ops (length run.cells) x (cell (value_at ops k) at.clock)) (sym word)
            (lies_packed inits ops (length run.cells) k at.clock (below_span (k + 1) (omega (arith, more, given.short))) (below_span at.clock (omega (arith, run.early, more, given.short)))),
        omega arith,
        stacked_kept inits ops at.clock (at.clock + 1) s s₁ run.cells (λ j h. pushed_kept j (λ e. omega arith)) (omega arith) run.held,
      )

  stack_push : eqb (op_at ops k) 4 ≡ true → (g : Bool) → eqb (guard_at ops k) 1 ≡ g
      → StackRun w t inits ops out₀ (k + 1) (stacked at (op_at ops k) (guard_at ops k)) (sets out (7 * k) (stack_turn w k at inits ops s).words) (stack_turn w k at inits ops s).scratch
  unfolding stacked pushed stack_told push_told stack_from is_op op_code input_at leveled bare s₁
  stack_push o true g =
      let d = run.depth in
      let i = run.within in
      let r = run.roomy in
      let e = run.early in
      let one : guard_at ops k ≡ 1 = eqb-true (guard_at ops k) 1 g in
      turned (record { clock = at.clock + 1; head = at.head; tail = at.tail + 1 }) (made (copied ops k 0 0 0) s₁) (simp (o, g)) (simp (o, g))
      (advance (cell (value_at ops k) at.clock ∷ run.cells) run.ages _ (bare (input_at ops k)) (copied ops k 0 0 0) s₁
      (simp (is_coded (op_at ops k) 4 (omega arith) ∙ o, g) (ap (λ (x : ℕ). bare (input_at ops k) ∷ stack_from (cell (value_at ops k) at.clock ∷ run.cells) (at.clock + x) run.ages t (drop (suc k) (inputs_in ops))) one))
      (copied_words ops k 0 0 0 op_low)
      (simp (o, g) (omega arith))
      (omega arith)
      (omega arith)
      pushed_held
      (λ a h. pushed_kept (w + a) (λ q. omega arith) ∙ run.counts a h)
      (let l = run.looked in omega arith)
      (omega arith)
      (omega arith)
      (length-set s at.tail (packed (k + 1) at.clock)))
  stack_push o false g =
      let i = run.within in
      let e = run.early in
      let none : guard_at ops k ≡ 0 = let l = form_guard (op_at ops k) (guard_at ops k) (addr_at ops k) (value_at ops k) Stack stack_clean.here.formed in let n = eqb-false (guard_at ops k) 1 g in zero_of (guard_at ops k) l n in
      let same : at.clock + guard_at ops k ≡ at.clock = omega arith in
      turned at (made (copied ops k 0 0 0) s) (simp (o, g)) (simp (o, g))
      (advance run.cells run.ages at (bare (input_at ops k)) (copied ops k 0 0 0) s
      (simp (is_coded (op_at ops k) 4 (omega arith) ∙ o, g) (ap (λ (x : ℕ). bare (input_at ops k) ∷ stack_from run.cells x run.ages t (drop (suc k) (inputs_in ops))) same))
      (copied_words ops k 0 0 0 op_low)
      (simp (o, g))
      run.depth
      (omega arith)
      run.held
      run.counts
      (let l = run.looked in omega arith)
      run.started
      (omega arith)
      refl)
    where
      zero_of : (g : ℕ) → g ≤ 1 → (g ≡ 1 → ⊥) → g ≡ 0
      zero_of g a b = omega arith

  -- a lookup leaves the cells
  looked_kept : (slot j : ℕ) → w ≤ slot → j < w → get_or (counted s slot) j 0 ≡ get_or s j 0
  looked_kept slot j a b = get_or-set_other s slot j (get_or s slot 0 + 1) 0 (λ e. omega arith)

  -- the counts after an age from 1 to t is looked up
  looked_counts : (age place : ℕ) → place < t → suc place ≡ age → (a : ℕ) → a < t → get_or (counted s (w + place)) (w + a) 0 ≡ occurrences (suc a) (age ∷ run.ages)
  looked_counts age place low is = counts_turn s w t suc run.ages age place run.counts run.roomy low is (λ j e. omega arith)

  -- the cells under the top
  under : (slot : ℕ) → w ≤ slot → Stacked inits ops at.clock (counted s slot) (drop 1 run.cells)
  under slot h = go run.cells run.depth run.held
    where
      go : (cells : List Cell) → length cells ≡ at.tail → Stacked inits ops at.clock s cells → Stacked inits ops at.clock (counted s slot) (drop 1 cells)
      go [] d held = tt
      go (c ∷ cells) d held =
          let i = run.within in
          stacked_kept inits ops at.clock at.clock s (counted s slot) cells (λ j l. looked_kept slot j h (omega arith)) (omega arith) held.2

  stack_pop : eqb (op_at ops k) 4 ≡ false → (g : Bool) → eqb (guard_at ops k) 1 ≡ g
      → StackRun w t inits ops out₀ (k + 1) (stacked at (op_at ops k) (guard_at ops k)) (sets out (7 * k) (stack_turn w k at inits ops s).words) (stack_turn w k at inits ops s).scratch
  unfolding stacked popped stack_told pop_told stack_from pop_row honestTime is_op op_code input_at leveled
  stack_pop o true g =
      let d = run.depth in
      let i = run.within in
      let e = run.early in
      let h : 0 < length run.cells = some (eqb-false (op_at ops k) 4 o) (eqb-true (guard_at ops k) 1 g) in
      let l = top h in
      let old = content_in inits ops (at.tail - 1) (top_word at s) in
      let time = pop_time at s in
      let place = at.clock - time - 1 in
      let age : suc place ≡ at.clock - time = let q = l.1 in let q' = l.0.time in omega arith in
      let version : occurrences (at.clock - (top_cell run.cells).time) run.ages ≡ get_or s (w + place) 0 =
      ap (λ (x : ℕ). occurrences (at.clock - x) run.ages) (sym l.0.time) ∙ ap (λ (a : ℕ). occurrences a run.ages) (sym age) ∙ sym (run.counts place (age_low h)) in
      turned (record { clock = at.clock; head = at.head; tail = at.tail - 1 }) (made (copied ops k old time (get_or s (w + place) 0)) (counted s (w + place))) (simp (o, g)) (simp (o, g))
      (advance (drop 1 run.cells) ((at.clock - time) ∷ run.ages) _ (filled_row (input_at ops k) old time (get_or s (w + place) 0)) (copied ops k old time (get_or s (w + place) 0)) (counted s (w + place))
      (simp (is_coded (op_at ops k) 4 (omega arith) ∙ o, g)
      (λ x. filled_row (input_at ops k) (sym l.0.content x) (sym l.0.time x) (version x)
      ∷ stack_from (drop 1 run.cells) at.clock ((at.clock - sym l.0.time x) ∷ run.ages) t (drop (suc k) (inputs_in ops))))
      (copied_words ops k old time (get_or s (w + place) 0) op_low)
      (simp (o, g) (sym (length-drop 1 run.cells)))
      (length-drop 1 run.cells ∙ ap (λ (n : ℕ). n - 1) run.depth)
      (omega arith)
      (under (w + place) (omega arith))
      (looked_counts (at.clock - time) place (age_low h) age)
      (let q = run.looked in omega arith)
      run.started
      (omega arith)
      (length-set s (w + place) (get_or s (w + place) 0 + 1)))
  stack_pop o false g =
      let i = run.within in
      let d = run.depth in
      let e = run.early in
      let st = run.started in
      let age : 1 ≡ at.clock - (at.clock - 1) = omega arith in
      let first : w + 0 ≡ w = omega arith in
      let version : occurrences (at.clock - (at.clock - 1)) run.ages ≡ get_or s w 0 =
      ap (λ (a : ℕ). occurrences a run.ages) (sym age) ∙ sym (run.counts 0 (omega arith)) ∙ ap (λ (j : ℕ). get_or s j 0) first in
      turned at (made (copied ops k 0 (at.clock - 1) (get_or s w 0)) (counted s w)) (simp (o, g)) (simp (o, g))
      (advance run.cells ((at.clock - (at.clock - 1)) ∷ run.ages) at (filled_row (input_at ops k) 0 (at.clock - 1) (get_or s w 0)) (copied ops k 0 (at.clock - 1) (get_or s w 0)) (counted s w)
      (simp (is_coded (op_at ops k) 4 (omega arith) ∙ o, g)
      (λ x. filled_row (input_at ops k) 0 (at.clock - 1) (version x) ∷ stack_from run.cells at.clock ((at.clock - (at.clock - 1)) ∷ run.ages) t (drop (suc k) (inputs_in ops))))
      (copied_words ops k 0 (at.clock - 1) (get_or s w 0) op_low)
      (simp (o, g))
      run.depth
      (omega arith)
      (stacked_kept inits ops at.clock at.clock s (counted s w) run.cells (λ j h. looked_kept w j (omega arith) (omega arith)) (omega arith) run.held)
      (subst (λ (b : ℕ). (a : ℕ) → a < t → get_or (counted s b) (w + a) 0 ≡ occurrences (suc a) ((at.clock - (at.clock - 1)) ∷ run.ages)) first (looked_counts (at.clock - (at.clock - 1)) 0 (omega arith) age))
      (let q = run.looked in omega arith)
      run.started
      (omega arith)
      (length-set s w (get_or s w 0 + 1)))

  pub stack_turn_lem : StackRun w t inits ops out₀ (k + 1) (stacked at (op_at ops k) (guard_at ops k)) (sets out (7 * k) (stack_turn w k at inits ops s).words) (stack_turn w k at inits ops s).scratch
  stack_turn_lem = go (eqb (op_at ops k) 4) refl
    where
      go : (b : Bool) → eqb (op_at ops k) 4 ≡ b → StackRun w t inits ops out₀ (k + 1) (stacked at (op_at ops k) (guard_at ops k)) (sets out (7 * k) (stack_turn w k at inits ops s).words) (stack_turn w k at inits ops s).scratch
      go true o = stack_push o (eqb (guard_at ops k) 1) refl
      go false o = stack_pop o (eqb (guard_at ops k) 1) refl

-- one cell more at the end
cells_snoc : (inits ops : List ℕ) (j c : ℕ) (s : List ℕ)
    → cell_ends inits ops j (suc c) s ≡ cell_ends inits ops j c s ++ end_row 0 (content_in inits ops (j + c) (get_or s (j + c) 0)) (time_in (get_or s (j + c) 0)) 0 ∷ []
unfolding cell_ends
cells_snoc inits ops j zero s = ap (λ (n : ℕ). end_row 0 (content_in inits ops n (get_or s n 0)) (time_in (get_or s n 0)) 0 ∷ []) here
  where
    here : j ≡ j + 0
    here = omega arith
cells_snoc inits ops j (suc c) s =
    ap (λ (l : List Row). end_row 0 (content_in inits ops j (get_or s j 0)) (time_in (get_or s j 0)) 0 ∷ l)
    (cells_snoc inits ops (suc j) c s ∙ ap (λ (n : ℕ). cell_ends inits ops (suc j) c s ++ end_row 0 (content_in inits ops n (get_or s n 0)) (time_in (get_or s n 0)) 0 ∷ []) step)
  where
    step : suc j + c ≡ j + suc c
    step = omega arith

-- the words of the cells give the end rows, the lowest first
stack_ends_are : (inits ops : List ℕ) (clock : ℕ) (s : List ℕ) (cells : List Cell) → Stacked inits ops clock s cells → stack_ends cells ≡ cell_ends inits ops 0 (length cells) s
unfolding stack_ends cell_ends
stack_ends_are inits ops clock s [] held = refl
stack_ends_are inits ops clock s (c ∷ cells) held =
    (λ i. stack_ends_are inits ops clock s cells held.2 i ++ end_row 0 (sym held.0.content i) (sym held.0.time i) 0 ∷ [])
    ∙ ap (λ (n : ℕ). cell_ends inits ops 0 (length cells) s ++ end_row 0 (content_in inits ops n (get_or s n 0)) (time_in (get_or s n 0)) 0 ∷ []) here
    ∙ sym (cells_snoc inits ops 0 (length cells) s)
  where
    here : length cells ≡ 0 + length cells
    here = omega arith

pub stack_ends_lem : (w t : ℕ) (inits ops out₀ : List ℕ) (at : Cursor) (out s : List ℕ) → Given w t ops out₀ → (run : StackRun w t inits ops out₀ t at out s)
    → Onward (operations_filled Stack t (values_in inits) (inputs_in ops)) (cell_ends inits ops 0 at.tail s ++ ranges w t s) t out₀ out
unfolding stack_from
stack_ends_lem w t inits ops out₀ at out s given run =
    let past : drop t (inputs_in ops) ≡ [] = drop_of_length-le (inputs_in ops) {i = t} (omega (arith, inputs_count ops t given.rows)) in
    let ends : stack_ends run.cells ≡ cell_ends inits ops 0 at.tail s = stack_ends_are inits ops at.clock s run.cells run.held ∙ ap (λ (n : ℕ). cell_ends inits ops 0 n s) run.depth in
    let ages : range_rows_from 1 t run.ages ≡ ranges w t s =
    ranges_are s w t 0 t run.ages run.counts (omega arith) ∙ ap (λ (b : ℕ). ranges b t s) (to_zero w) in
    onward_as (cell_ends inits ops 0 at.tail s ++ ranges w t s) (ap (stack_from run.cells at.clock run.ages t) past ∙ (λ i. ends i ++ ages i)) run.onward
  where
    to_zero : (b : ℕ) → b + 0 ≡ b
    to_zero b = omega arith

pub stack_start : (w t : ℕ) (inits ops out s : List ℕ) → ((j : ℕ) → get_or s j 0 ≡ 0) → w + t ≤ length s → Clean Stack (values_in inits) 0 (inputs_in ops)
    → StackRun w t inits ops out 0 (record { clock = 1; head = 0; tail = 0 }) out s
unfolding operations_filled occurrences
stack_start w t inits ops out s zeros roomy clean = record {
  cells = [];
  ages = [];
  depth = refl;
  within = omega arith;
  held = tt;
  counts = λ a h. zeros (w + a);
  looked = omega arith;
  started = omega arith;
  early = omega arith;
  roomy = roomy;
  onward = onward_start _ out;
  clean = clean;
}
