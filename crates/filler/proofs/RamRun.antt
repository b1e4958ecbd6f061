-- A run of accesses: the sources and times of the cells lie in the scratch words, and after them
-- the lookups of each age.
--     ram_ready, ram_turn_lem    an access is possible, and after it the run is one access further
--     ram_start       before the first access
--     ram_ends_lem        after all of them the scratch words give the end rows and range rows
-- Assumes nothing.
use Prim.Native.Nat.{ℕ, suc, ◌+◌, ◌-◌, ◌*◌, ◌≤◌, ◌<◌}
use native.Mathlib.Omega.{arith}
use native.Mathlib.Decide.{ℕ_discrete}
use native.Mathlib.Numerals.{add-one}
use mathlib.Core.Bool.{Bool, true, false, cond}
use mathlib.Core.Path.{◌≡◌, refl, sym, ap, subst, ◌∙◌}
use mathlib.Core.List.{List, [], ◌∷◌, ◌++◌, map}
use lib.Dec.{eqb}
use lib.ListN.{length, get_or, set, drop, length-set, length-map, drop_of_length-le, get_or-map}
use lib.Seq.{sets, get_or-set_same, get_or-set_other}
use Rattle.memory.specs.declared.Memory.TheVariants.{Ram}
use Rattle.runs.specs.Honest.{Cell, cell, cell_at, filled_row, range_rows_from, occurrences, ram_age, ram_row, ram_cells, ram_ends, ram_from, operations_filled}
use Rattle.runs.specs.Filler.{inputs_in}
use Rattle.words.specs.Inputs.{value_at, op_at, guard_at, addr_at, input_at}
use Rattle.words.specs.Cells.{span, packed, source_in, time_in, content_in}
use Rattle.index.specs.Values.{values_in}
use Rattle.filler.specs.Steps.{Turn, turn_of, counted, ram_source, ram_told, RamReady}
use Rattle.filler.specs.Ends.{cell_ends, ranges}
use Rattle.faults.specs.Scan.{leveled}
use Rattle.memory.proofs.ReadFields.{chosen}
use Rattle.index.proofs.Values.{values_at}
use Rattle.filler.proofs.Inputs.{inputs_count, values_count}
use Rattle.words.proofs.Packed.{source_packed, time_packed, content_packed, content_moved}
use Rattle.filler.proofs.Span.{below_span}
use Rattle.filler.proofs.Forms.{form_ram}
use Rattle.filler.proofs.Onward.{Given, Onward, onward_start, onward_next, onward_as, Clean, CleanTurn, clean_turn, inside_ram, copied_words}
use Rattle.filler.proofs.Lies.{Lies, cells_end}
use Rattle.filler.proofs.Counts.{occurrences_few, counts_turn, ranges_are}

-- the turn of operation k, of which only the clock matters
abbrev pub ram_turn : ℕ → ℕ → ℕ → List ℕ → List ℕ → List ℕ → Turn
ram_turn w k clock inits ops s = turn_of ops k (ram_told w k (record { clock = clock; head = 0; tail = 0 }) (guard_at ops k) (addr_at ops k) inits ops s)

pub record RamRun (w t : ℕ) (inits ops out₀ : List ℕ) (k clock : ℕ) (out s : List ℕ) : Type 0 where
  pub cells : List Cell
  pub ages : List ℕ
  pub count : length cells ≡ w
  pub held : (j : ℕ) → j < w → Lies inits ops j (get_or s j 0) (cell_at cells j)
  pub sources : (j : ℕ) → j < w → source_in (get_or s j 0) ≤ k
  pub past : (j : ℕ) → j < w → time_in (get_or s j 0) < clock
  pub counts : (a : ℕ) → a < t → get_or s (w + a) 0 ≡ occurrences (suc a) ages
  pub looked : length ages ≡ k
  pub timed : clock ≡ k + 1
  pub roomy : w + t ≤ length s
  pub onward : Onward (operations_filled Ram t (values_in inits) (inputs_in ops)) (ram_from cells clock ages t (drop k (inputs_in ops))) k out₀ out
  pub clean : Clean Ram (values_in inits) w (drop k (inputs_in ops))

module _ (w t : ℕ) (inits ops out₀ : List ℕ) (given : Given w t ops out₀) (k clock : ℕ) (out s : List ℕ) (run : RamRun w t inits ops out₀ k clock out s) (more : k < t) where
  ram_clean : CleanTurn Ram (values_in inits) w ops k
  ram_clean = clean_turn Ram (values_in inits) w ops k (let g = given.rows in omega arith) run.clean

  addr : ℕ
  addr = addr_at ops k

  inside : addr < w
  unfolding addr
  inside = inside_ram (values_in inits) w (op_at ops k) (guard_at ops k) (addr_at ops k) (value_at ops k) ram_clean.here.possible

  -- the word of the cell, the time that the access reads in it, and the place of its age among the
  -- counts
  word : ℕ
  word = get_or s addr 0

  time : ℕ
  time = time_in word

  older : time < clock
  unfolding time word
  older = run.past addr inside

  place : ℕ
  place = clock - time - 1

  place_is : suc place ≡ clock - time
  unfolding place
  place_is = let o = older in omega arith

  place_low : place < t
  unfolding place
  place_low = let c = run.timed in let o = older in omega arith

  version : get_or s (w + place) 0 ≡ occurrences (clock - time) run.ages
  version = run.counts place place_low ∙ ap (λ (a : ℕ). occurrences a run.ages) place_is

  pub ram_ready : RamReady w clock (addr_at ops k) s
  unfolding addr word time place
  ram_ready = record {
    within = inside;
    older = older;
    countable = record {
      inside = let r = run.roomy in let l = place_low in omega arith;
      low = omega (arith, version, occurrences_few (clock - time) run.ages, run.looked, given.short);
    };
  }

  -- the content that the access reads, and the one that it leaves
  old : ℕ
  old = content_in inits ops addr word

  old_is : old ≡ (cell_at run.cells addr).content
  unfolding old word
  old_is = (run.held addr inside).content

  stored : ℕ
  stored = cond (eqb (guard_at ops k) 1) (value_at ops k) old

  -- the word that it leaves: its clock, and the source of that content
  source : ℕ
  source = ram_source k (guard_at ops k) addr s

  early : clock < span
  early = below_span clock (omega (arith, run.timed, more, given.short))

  numbered : k + 1 < span
  numbered = below_span (k + 1) (omega (arith, more, given.short))

  source_low : source ≤ k + 1
  unfolding source
  source_low = chosen (λ (x : ℕ). x ≤ k + 1) (eqb (guard_at ops k) 1) (omega arith) (omega (arith, run.sources addr inside))

  stored_is : content_in inits ops addr (packed source clock) ≡ stored
  unfolding source stored old word
  stored_is = go (eqb (guard_at ops k) 1)
    where
      go : (b : Bool) → content_in inits ops addr (packed (cond b (k + 1) (source_in (get_or s addr 0))) clock) ≡ cond b (value_at ops k) (content_in inits ops addr (get_or s addr 0))
      go true = content_packed inits ops addr k clock numbered
      go false = content_moved inits ops addr (get_or s addr 0) clock (omega (arith, run.sources addr inside, numbered))

  -- the scratch words after the access, one store at a time
  s₁ : List ℕ
  s₁ = counted s (w + place)

  s₂ : List ℕ
  s₂ = set s₁ addr (packed source clock)

  long₁ : length s₁ ≡ length s
  unfolding s₁
  long₁ = length-set s (w + place) (get_or s (w + place) 0 + 1)

  long₂ : length s₂ ≡ length s
  unfolding s₂
  long₂ = length-set s₁ addr (packed source clock) ∙ long₁

  -- a word of the cells that is not written, and the one that is
  kept : (j : ℕ) → j < w → (j ≡ addr → ⊥) → get_or s₂ j 0 ≡ get_or s j 0
  unfolding s₁ s₂
  kept j h a =
      get_or-set_other s₁ addr j (packed source clock) 0 a ∙ get_or-set_other s (w + place) j (get_or s (w + place) 0 + 1) 0 (λ e. omega arith)

  word_at : (j : ℕ) → j ≡ addr → get_or s₂ j 0 ≡ packed source clock
  unfolding s₂
  word_at j e =
      let r = run.roomy in
      let l = long₁ in
      let i = inside in
      ap (λ (x : ℕ). get_or (set s₁ addr (packed source clock)) x 0) e ∙ get_or-set_same s₁ addr (packed source clock) 0 (omega arith)

  -- what holds of the word that is written, and of those that are not, holds of all
  each : (P : ℕ → ℕ → Type 0) → P addr (packed source clock) → ((j : ℕ) → j < w → (j ≡ addr → ⊥) → P j (get_or s j 0)) → (j : ℕ) → j < w → P j (get_or s₂ j 0)
  each P here others j h = go (ℕ_discrete j addr)
    where
      go : Dec (j ≡ addr) → P j (get_or s₂ j 0)
      go (yes e) = subst (P j) (sym (word_at j e)) (subst (λ (i : ℕ). P i (packed source clock)) (sym e) here)
      go (no n) = subst (P j) (sym (kept j h n)) (others j h n)

  -- the counts after the access
  ages_counted : (a : ℕ) → a < t → get_or s₂ (w + a) 0 ≡ occurrences (suc a) ((clock - time) ∷ run.ages)
  unfolding s₁ s₂
  ages_counted a h =
      let r = run.roomy in
      let i = inside in
      get_or-set_other s₁ addr (w + a) (packed source clock) 0 (λ e. omega arith)
      ∙ counts_turn s w t suc run.ages (clock - time) place run.counts r place_low place_is (λ j e. let q = place_is in omega arith) a h

  -- the cells after the access
  cells' : List Cell
  cells' = set run.cells addr (cell stored clock)

  cell_at_lem : cell_at cells' addr ≡ cell stored clock
  unfolding cells' cell_at
  cell_at_lem = let c = run.count in let i = inside in get_or-set_same run.cells addr (cell stored clock) (cell 0 0) (omega arith)

  cell_kept : (j : ℕ) → (j ≡ addr → ⊥) → cell_at cells' j ≡ cell_at run.cells j
  unfolding cells' cell_at
  cell_kept j n = get_or-set_other run.cells addr j (cell stored clock) (cell 0 0) n

  held' : (j : ℕ) → j < w → Lies inits ops j (get_or s₂ j 0) (cell_at cells' j)
  unfolding cell
  held' =
      each (λ j x. Lies inits ops j x (cell_at cells' j))
      (subst (Lies inits ops addr (packed source clock)) (sym cell_at_lem) (record { content = stored_is; time = time_packed source clock early }))
      (λ j h n. subst (Lies inits ops j (get_or s j 0)) (sym (cell_kept j n)) (run.held j h))

  sources' : (j : ℕ) → j < w → source_in (get_or s₂ j 0) ≤ k + 1
  sources' =
      each (λ j x. source_in x ≤ k + 1) (omega (arith, source_packed source clock (omega (arith, source_low, numbered)), source_low)) (λ j h n. omega (arith, run.sources j h))

  past' : (j : ℕ) → j < w → time_in (get_or s₂ j 0) < clock + 1
  past' = each (λ j x. time_in x < clock + 1) (omega (arith, time_packed source clock early)) (λ j h n. omega (arith, run.past j h))

  -- the honest state after the access is the one that the words hold
  cells_are : ram_cells run.cells clock (input_at ops k) ≡ cells'
  unfolding ram_cells input_at addr cells' stored
  cells_are = ap (λ (x : ℕ). set run.cells addr (cell (cond (eqb (guard_at ops k) 1) (value_at ops k) x) clock)) (sym old_is)

  age_is : ram_age run.cells clock (input_at ops k) ≡ clock - time
  unfolding ram_age input_at addr time word
  age_is = ap (λ (x : ℕ). clock - x) (sym (run.held addr inside).time)

  row_is : ram_row run.cells clock run.ages (input_at ops k) ≡ filled_row (input_at ops k) old time (get_or s (w + place) 0)
  unfolding ram_row input_at addr time word
  row_is =
      let version' : occurrences (ram_age run.cells clock (input_at ops k)) run.ages ≡ get_or s (w + place) 0 = ap (λ (a : ℕ). occurrences a run.ages) age_is ∙ sym version in
      λ i. filled_row (input_at ops k) (sym old_is i) (sym (run.held addr inside).time i) (version' i)

  op_low : op_at ops k ≤ 9
  op_low = omega (arith, form_ram (op_at ops k) (guard_at ops k) (addr_at ops k) (value_at ops k) ram_clean.here.formed)

  pub ram_turn_lem : RamRun w t inits ops out₀ (k + 1) (clock + 1) (sets out (7 * k) (ram_turn w k clock inits ops s).words) (ram_turn w k clock inits ops s).scratch
  unfolding ram_told ram_from leveled addr word time place old source s₁ s₂ cells'
  ram_turn_lem = record {
    cells = cells';
    ages = (clock - time) ∷ run.ages;
    count = cells_long;
    held = held';
    sources = sources';
    past = past';
    counts = ages_counted;
    looked = let l = run.looked in omega arith;
    timed = let c = run.timed in omega arith;
    roomy = subst (λ (n : ℕ). w + t ≤ n) (sym long₂) run.roomy;
    onward = onward_next w t ops given more (ram_from run.cells clock run.ages t) (ram_from cells' (clock + 1) ((clock - time) ∷ run.ages) t)
        (filled_row (input_at ops k) old time (get_or s (w + place) 0))
        (ram_turn w k clock inits ops s).words
        run.onward
        (λ i. row_is i ∷ ram_from (cells_are i) (sym (add-one clock) i) (age_is i ∷ run.ages) t (drop (suc k) (inputs_in ops)))
        (copied_words ops k old time (get_or s (w + place) 0) op_low);
    clean = ram_clean.later;
  }
    where
      cells_long : length cells' ≡ w
      cells_long = length-set run.cells addr (cell stored clock) ∙ run.count

pub ram_ends_lem : (w t : ℕ) (inits ops out₀ : List ℕ) (clock : ℕ) (out s : List ℕ) → Given w t ops out₀ → (run : RamRun w t inits ops out₀ t clock out s)
    → Onward (operations_filled Ram t (values_in inits) (inputs_in ops)) (cell_ends inits ops 0 w s ++ ranges w t s) t out₀ out
unfolding ram_from
ram_ends_lem w t inits ops out₀ clock out s given run =
    let past : drop t (inputs_in ops) ≡ [] = drop_of_length-le (inputs_in ops) {i = t} (omega (arith, inputs_count ops t given.rows)) in
    let count = run.count in
    let ends : ram_ends run.cells ≡ cell_ends inits ops 0 w s =
    cells_end inits ops s 0 run.cells (λ i h. subst (λ (x : ℕ). Lies inits ops x (get_or s x 0) (cell_at run.cells i)) (sym (from_zero i)) (run.held i (omega arith)))
    ∙ ap (λ (n : ℕ). cell_ends inits ops 0 n s) count in
    let ages : range_rows_from 1 t run.ages ≡ ranges w t s =
    ranges_are s w t 0 t run.ages run.counts (omega arith) ∙ ap (λ (b : ℕ). ranges b t s) (to_zero w) in
    onward_as (cell_ends inits ops 0 w s ++ ranges w t s) (ap (ram_from run.cells clock run.ages t) past ∙ (λ i. ends i ++ ages i)) run.onward
  where
    from_zero : (i : ℕ) → 0 + i ≡ i
    from_zero i = omega arith

    to_zero : (b : ℕ) → b + 0 ≡ b
    to_zero b = omega arith

-- before the first access
pub ram_start : (w t : ℕ) (inits ops out s : List ℕ) → 4 * w ≡ length inits → ((j : ℕ) → get_or s j 0 ≡ 0) → w + t ≤ length s → Clean Ram (values_in inits) w (inputs_in ops)
    → RamRun w t inits ops out 0 1 out s
unfolding operations_filled cell_at cell occurrences content_in source_in time_in span
ram_start w t inits ops out s count zeros roomy clean = record {
  cells = map start (values_in inits);
  ages = [];
  count = length-map (values_in inits) start ∙ values_count inits w count;
  held = λ j h. record {
    content = ap (content_in inits ops j) (zeros j) ∙ values_at inits j ∙ sym (ap (λ (c : Cell). c.content) (at j));
    time = ap time_in (zeros j) ∙ sym (ap (λ (c : Cell). c.time) (at j));
  };
  sources = λ j h. omega (arith, ap source_in (zeros j));
  past = λ j h. omega (arith, ap time_in (zeros j));
  counts = λ a h. zeros (w + a);
  looked = refl;
  timed = refl;
  roomy = roomy;
  onward = onward_start _ out;
  clean = clean;
}
  where
    start : ℕ → Cell
    start v = cell v 0

    at : (j : ℕ) → get_or (map start (values_in inits)) j (cell 0 0) ≡ start (get_or (values_in inits) j 0)
    at j = get_or-map start (values_in inits) j 0
