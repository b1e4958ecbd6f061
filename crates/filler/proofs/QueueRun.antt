-- A run of enqueues and dequeues: the sources of the elements lie in the scratch words from the
-- head up to the tail.
--     queue_ready, queue_turn_lem    an operation is possible, and after it the run is one operation further
--     queue_ends_lem      after all of them the elements left give the end rows
-- Assumes nothing.
use Prim.Native.Nat.{ℕ, suc, ◌+◌, ◌-◌, ◌*◌, ◌≤◌, ◌<◌}
use native.Mathlib.Omega.{arith}
use native.Mathlib.Decide.{ℕ_discrete}
use mathlib.Core.Bool.{Bool, true, false}
use mathlib.Core.Logic.{◌⊎◌, inl, inr}
use mathlib.Core.Path.{◌≡◌, refl, sym, ap, subst, ◌∙◌}
use mathlib.Core.List.{List, [], ◌∷◌, ◌++◌, map}
use lib.Dec.{eqb}
use lib.ListN.{length, get_or, set, drop, length-set, length-append, length-drop, length-map, drop_of_length-le, get_or-append, get_or-map}
use lib.Seq.{sets, get_or-set_same, get_or-set_other, get_or-append_seam, get_or-drop}
use borrow.Author.Tests.{eqb-true, eqb-false}
use Rattle.memory.specs.declared.Memory.TheVariants.{Queue}
use Rattle.memory.specs.declared.Row.{Row}
use Rattle.memory.specs.Names.{op_code, is_op}
use Rattle.runs.specs.Honest.{Cell, cell, cell_at, filled_row, bare, end_row, ram_ends, queue_from, operations_filled}
use Rattle.runs.specs.Filler.{inputs_in, row_numbers}
use Rattle.filler.specs.declared.steps.Cursor.{Cursor}
use Rattle.words.specs.Inputs.{value_at, op_at, guard_at, addr_at, input_at}
use Rattle.words.specs.Cells.{packed, content_in}
use Rattle.index.specs.Values.{values_in}
use Rattle.filler.specs.Words.{copied}
use Rattle.filler.specs.Steps.{Turn, made, turn_of, enqueue_told, enqueued, dequeue_told, dequeued, queue_told, queued, QueueReady}
use Rattle.filler.specs.Ends.{cell_ends}
use Rattle.faults.specs.Scan.{leveled}
use Rattle.filler.proofs.Inputs.{inputs_count}
use Rattle.faults.proofs.Codes.{is_coded}
use Rattle.filler.proofs.Forms.{form_queue}
use Rattle.filler.proofs.Span.{below_span}
use Rattle.filler.proofs.Lies.{Lies, lies_packed, cells_end}
use Rattle.filler.proofs.Onward.{Given, Onward, onward_start, onward_next, onward_as, Clean, CleanTurn, clean_turn, held_queue, copied_words}

-- the turn of operation k
abbrev pub queue_turn : ℕ → Cursor → List ℕ → List ℕ → List ℕ → Turn
queue_turn k at inits ops s = turn_of ops k (queue_told k at (op_at ops k) (guard_at ops k) inits ops s)

pub record QueueRun (w t : ℕ) (inits ops out₀ : List ℕ) (k : ℕ) (at : Cursor) (out s : List ℕ) : Type 0 where
  pub content : List ℕ
  pub held : at.head + length content ≡ at.tail
  pub within : at.tail ≤ k
  pub cells : (j : ℕ) → j < length content → Lies inits ops (at.head + j) (get_or s (at.head + j) 0) (cell (get_or content j 0) 0)
  pub roomy : w ≤ length s
  pub onward : Onward (operations_filled Queue t (values_in inits) (inputs_in ops)) (queue_from content (drop k (inputs_in ops))) k out₀ out
  pub clean : Clean Queue (values_in inits) (length content) (drop k (inputs_in ops))

module _ (w t : ℕ) (inits ops out₀ : List ℕ) (given : Given w t ops out₀) (width : w ≡ t) (k : ℕ) (at : Cursor) (out s : List ℕ) (run : QueueRun w t inits ops out₀ k at out s) (more : k < t) where
  queue_clean : CleanTurn Queue (values_in inits) (length run.content) ops k
  queue_clean = clean_turn Queue (values_in inits) (length run.content) ops k (let g = given.rows in omega arith) run.clean

  queue_op : op_at ops k ≤ 9
  queue_op = go (form_queue (op_at ops k) (guard_at ops k) (addr_at ops k) (value_at ops k) queue_clean.here.formed)
    where
      go : (op_at ops k ≡ 6) ⊎ (op_at ops k ≡ 7) → op_at ops k ≤ 9
      go (inl e) = omega arith
      go (inr e) = omega arith

  queue_some : (op_at ops k ≡ 6 → ⊥) → guard_at ops k ≡ 1 → 0 < length run.content
  queue_some = held_queue (values_in inits) (length run.content) (op_at ops k) (guard_at ops k) (addr_at ops k) (value_at ops k) queue_clean.here.possible

  pub queue_ready : QueueReady k at (op_at ops k) (guard_at ops k) s
  queue_ready =
      let h = run.held in
      let h' = run.within in
      let r = run.roomy in
      record {
        enqueue = λ _. record { low = omega (arith, more, given.short); free = λ _. omega arith };
        dequeue = λ n. record { held = λ e. let some : 0 < length run.content = queue_some n e in omega arith };
      }

  -- the run after an operation that gives a row and leaves a content
  advance : (content' : List ℕ) (at' : Cursor) (row : Row) (ws s' : List ℕ)
      → queue_from run.content (input_at ops k ∷ drop (suc k) (inputs_in ops)) ≡ row ∷ queue_from content' (drop (suc k) (inputs_in ops))
      → ws ≡ row_numbers (row ∷ [])
      → leveled Queue (length run.content) (op_at ops k) (guard_at ops k) ≡ length content'
      → at'.head + length content' ≡ at'.tail
      → at'.tail ≤ k + 1
      → ((j : ℕ) → j < length content' → Lies inits ops (at'.head + j) (get_or s' (at'.head + j) 0) (cell (get_or content' j 0) 0))
      → length s' ≡ length s
      → QueueRun w t inits ops out₀ (k + 1) at' (sets out (7 * k) ws) s'
  advance content' at' row ws s' e words level held within cells long = record {
    content = content';
    held = held;
    within = within;
    cells = cells;
    roomy = subst (λ (n : ℕ). w ≤ n) (sym long) run.roomy;
    onward = onward_next w t ops given more (queue_from run.content) (queue_from content') row ws run.onward e words;
    clean = subst (λ (l : ℕ). Clean Queue (values_in inits) l (drop (k + 1) (inputs_in ops))) level queue_clean.later;
  }

  -- the run after the next operation, where it is known what that does
  turned : (at' : Cursor) (turn : Turn) → queued at (op_at ops k) (guard_at ops k) ≡ at' → queue_turn k at inits ops s ≡ turn → QueueRun w t inits ops out₀ (k + 1) at' (sets out (7 * k) turn.words) turn.scratch
      → QueueRun w t inits ops out₀ (k + 1) (queued at (op_at ops k) (guard_at ops k)) (sets out (7 * k) (queue_turn k at inits ops s).words) (queue_turn k at inits ops s).scratch
  turned at' turn e f r =
      subst (λ (x : Turn). QueueRun w t inits ops out₀ (k + 1) (queued at (op_at ops k) (guard_at ops k)) (sets out (7 * k) x.words) x.scratch) (sym f)
      (subst (λ (x : Cursor). QueueRun w t inits ops out₀ (k + 1) x (sets out (7 * k) turn.words) turn.scratch) (sym e) r)

  -- the words after an executed enqueue
  s₁ : List ℕ
  s₁ = set s at.tail (packed (k + 1) 0)

  entered : (j : ℕ) → j < length (run.content ++ value_at ops k ∷ []) → Lies inits ops (at.head + j) (get_or s₁ (at.head + j) 0) (cell (get_or (run.content ++ value_at ops k ∷ []) j 0) 0)
  unfolding s₁
  entered j h = go (ℕ_discrete j (length content))
    where
      content : List ℕ
      content = run.content

      v : ℕ
      v = value_at ops k

      held : at.head + length content ≡ at.tail
      held = run.held

      -- the word and the element, by what they are
      lies : (word x : ℕ) → get_or s₁ (at.head + j) 0 ≡ word → get_or (content ++ v ∷ []) j 0 ≡ x → Lies inits ops (at.head + j) word (cell x 0)
          → Lies inits ops (at.head + j) (get_or s₁ (at.head + j) 0) (cell (get_or (content ++ v ∷ []) j 0) 0)
      lies word x e f l =
          subst (λ (y : ℕ). Lies inits ops (at.head + j) y (cell (get_or (content ++ v ∷ []) j 0) 0)) (sym e)
          (subst (λ (y : ℕ). Lies inits ops (at.head + j) word (cell y 0)) (sym f) l)

      go : Dec (j ≡ length content) → Lies inits ops (at.head + j) (get_or s₁ (at.head + j) 0) (cell (get_or (content ++ v ∷ []) j 0) 0)
      go (yes e) =
          let here : at.head + j ≡ at.tail = let hh = held in omega arith in
          let r = run.roomy in
          let h' = run.within in
          lies (packed (k + 1) 0) v
          (ap (λ (i : ℕ). get_or s₁ i 0) here ∙ get_or-set_same s at.tail (packed (k + 1) 0) 0 (omega arith))
          (ap (λ (i : ℕ). get_or (content ++ v ∷ []) i 0) e ∙ get_or-append_seam content v [] 0)
          (lies_packed inits ops (at.head + j) k 0 (below_span (k + 1) (omega (arith, more, given.short))) (below_span 0 (omega arith)))
      go (no n) =
          let l : length (content ++ v ∷ []) ≡ length content + 1 = length-append content (v ∷ []) in
          let low : j < length content = lt_of (omega arith) n in
          let hh = held in
          lies (get_or s (at.head + j) 0) (get_or content j 0)
          (get_or-set_other s at.tail (at.head + j) (packed (k + 1) 0) 0 (λ e. omega arith))
          (get_or-append content (v ∷ []) 0 j low)
          (run.cells j low)
        where
          lt_of : j ≤ length content → (j ≡ length content → ⊥) → j < length content
          lt_of a b = omega arith

  queue_enqueue : eqb (op_at ops k) 6 ≡ true → (g : Bool) → eqb (guard_at ops k) 1 ≡ g
      → QueueRun w t inits ops out₀ (k + 1) (queued at (op_at ops k) (guard_at ops k)) (sets out (7 * k) (queue_turn k at inits ops s).words) (queue_turn k at inits ops s).scratch
  unfolding queued enqueued queue_told enqueue_told queue_from is_op op_code input_at leveled bare s₁
  queue_enqueue o true g =
      let content = run.content in
      let v = value_at ops k in
      let held = run.held in
      let within = run.within in
      turned (record { clock = at.clock; head = at.head; tail = at.tail + 1 }) (made (copied ops k 0 0 0) s₁) (simp (o, g)) (simp (o, g))
      (advance (content ++ v ∷ []) _ (bare (input_at ops k)) (copied ops k 0 0 0) s₁
      (simp (is_coded (op_at ops k) 6 (omega arith) ∙ o, g))
      (copied_words ops k 0 0 0 queue_op)
      (simp (o, g) (sym (length-append content (v ∷ []))))
      (let l : length (content ++ v ∷ []) ≡ length content + 1 = length-append content (v ∷ []) in omega arith)
      (omega arith)
      entered
      (length-set s at.tail (packed (k + 1) 0)))
  queue_enqueue o false g =
      let within = run.within in
      turned at (made (copied ops k 0 0 0) s) (simp (o, g)) (simp (o, g))
      (advance run.content at (bare (input_at ops k)) (copied ops k 0 0 0) s
      (simp (is_coded (op_at ops k) 6 (omega arith) ∙ o, g))
      (copied_words ops k 0 0 0 queue_op)
      (simp (o, g))
      run.held
      (omega arith)
      run.cells
      refl)

  queue_dequeue : eqb (op_at ops k) 6 ≡ false → (g : Bool) → eqb (guard_at ops k) 1 ≡ g
      → QueueRun w t inits ops out₀ (k + 1) (queued at (op_at ops k) (guard_at ops k)) (sets out (7 * k) (queue_turn k at inits ops s).words) (queue_turn k at inits ops s).scratch
  unfolding queued dequeued queue_told dequeue_told queue_from is_op op_code input_at leveled cell
  queue_dequeue o true g =
      let content = run.content in
      let held = run.held in
      let within = run.within in
      let some : 0 < length content = queue_some (eqb-false (op_at ops k) 6 o) (eqb-true (guard_at ops k) 1 g) in
      let left : length (drop 1 content) ≡ length content - 1 = length-drop 1 content in
      let old = content_in inits ops at.head (get_or s at.head 0) in
      let first : old ≡ get_or content 0 0 = ap (λ (i : ℕ). content_in inits ops i (get_or s i 0)) (omega_zero at.head) ∙ (run.cells 0 some).content in
      turned (record { clock = at.clock; head = at.head + 1; tail = at.tail }) (made (copied ops k old 0 0) s) (simp (o, g)) (simp (o, g))
      (advance (drop 1 content) _ (filled_row (input_at ops k) (get_or content 0 0) 0 0) (copied ops k old 0 0) s
      (simp (is_coded (op_at ops k) 6 (omega arith) ∙ o, g))
      (copied_words ops k old 0 0 queue_op ∙ ap (λ (x : ℕ). row_numbers (filled_row (input_at ops k) x 0 0 ∷ [])) first)
      (simp (o, g) (sym left))
      (omega arith)
      (omega arith)
      (λ j h. subst (λ (v : ℕ). Lies inits ops (at.head + 1 + j) (get_or s (at.head + 1 + j) 0) (cell v 0)) (sym (get_or-drop 1 content j 0))
      (subst (λ (i : ℕ). Lies inits ops i (get_or s i 0) (cell (get_or content (1 + j) 0) 0)) (sym (omega_step at.head j)) (run.cells (1 + j) (omega arith))))
      refl)
    where
      omega_zero : (h : ℕ) → h ≡ h + 0
      omega_zero h = omega arith

      omega_step : (h j : ℕ) → h + 1 + j ≡ h + (1 + j)
      omega_step h j = omega arith
  queue_dequeue o false g =
      let within = run.within in
      turned at (made (copied ops k 0 0 0) s) (simp (o, g)) (simp (o, g))
      (advance run.content at (filled_row (input_at ops k) 0 0 0) (copied ops k 0 0 0) s
      (simp (is_coded (op_at ops k) 6 (omega arith) ∙ o, g))
      (copied_words ops k 0 0 0 queue_op)
      (simp (o, g))
      run.held
      (omega arith)
      run.cells
      refl)

  pub queue_turn_lem : QueueRun w t inits ops out₀ (k + 1) (queued at (op_at ops k) (guard_at ops k)) (sets out (7 * k) (queue_turn k at inits ops s).words) (queue_turn k at inits ops s).scratch
  queue_turn_lem = go (eqb (op_at ops k) 6) refl
    where
      go : (b : Bool) → eqb (op_at ops k) 6 ≡ b → QueueRun w t inits ops out₀ (k + 1) (queued at (op_at ops k) (guard_at ops k)) (sets out (7 * k) (queue_turn k at inits ops s).words) (queue_turn k at inits ops s).scratch
      go true o = queue_enqueue o (eqb (guard_at ops k) 1) refl
      go false o = queue_dequeue o (eqb (guard_at ops k) 1) refl

-- the end rows of elements are those of cells without a time
element : ℕ → Cell
element v = cell v 0

elements_end : (content : List ℕ) → map (λ v. end_row 0 v 0 0) content ≡ ram_ends (map element content)
unfolding ram_ends element cell
elements_end [] = refl
elements_end (v ∷ content) = ap (λ (rows : List Row). end_row 0 v 0 0 ∷ rows) (elements_end content)

queue_ends_from : (inits ops content s : List ℕ) (h : ℕ) → ((j : ℕ) → j < length content → Lies inits ops (h + j) (get_or s (h + j) 0) (cell (get_or content j 0) 0))
    → map (λ v. end_row 0 v 0 0) content ≡ cell_ends inits ops h (length content) s
unfolding element cell_at
queue_ends_from inits ops content s h cells =
    let many : length (map element content) ≡ length content = length-map content element in
    elements_end content
    ∙ cells_end inits ops s h (map element content) (λ j l. subst (Lies inits ops (h + j) (get_or s (h + j) 0)) (sym (get_or-map element content j 0)) (cells j (omega arith)))
    ∙ ap (λ (c : ℕ). cell_ends inits ops h c s) many

pub queue_ends_lem : (w t : ℕ) (inits ops out₀ : List ℕ) (at : Cursor) (out s : List ℕ) → Given w t ops out₀ → (run : QueueRun w t inits ops out₀ t at out s)
    → Onward (operations_filled Queue t (values_in inits) (inputs_in ops)) (cell_ends inits ops at.head (at.tail - at.head) s) t out₀ out
unfolding queue_from
queue_ends_lem w t inits ops out₀ at out s given run =
    let past : drop t (inputs_in ops) ≡ [] = drop_of_length-le (inputs_in ops) {i = t} (omega (arith, inputs_count ops t given.rows)) in
    let held = run.held in
    let many : length run.content ≡ at.tail - at.head = omega arith in
    onward_as (cell_ends inits ops at.head (at.tail - at.head) s)
    (ap (queue_from run.content) past
    ∙ queue_ends_from inits ops run.content s at.head run.cells
    ∙ ap (λ (c : ℕ). cell_ends inits ops at.head c s) many)
    run.onward

pub queue_start : (w t : ℕ) (inits ops out s : List ℕ) → w ≤ length s → Clean Queue (values_in inits) 0 (inputs_in ops)
    → QueueRun w t inits ops out 0 (record { clock = 1; head = 0; tail = 0 }) out s
unfolding operations_filled
queue_start w t inits ops out s roomy clean = record {
  content = [];
  held = refl;
  within = omega arith;
  cells = λ j h. absurd (omega arith);
  roomy = roomy;
  onward = onward_start _ out;
  clean = clean;
}
