-- A run of looks: the scratch words count the lookups of each address.
--     rom_ready, rom_turn_lem    a look is possible, and after it the run is one look further
--     rom_ends_lem        after all of them the counts give the end rows
-- Assumes nothing.
use Prim.Native.Nat.{ℕ, suc, ◌+◌, ◌*◌, ◌≤◌, ◌<◌}
use native.Mathlib.Omega.{arith}
use mathlib.Core.Path.{◌≡◌, refl, sym, ap, subst, ◌∙◌}
use mathlib.Core.List.{List, [], ◌∷◌}
use lib.ListN.{length, get_or, drop, length-set, drop_of_length-le}
use lib.Seq.{sets}
use Rattle.memory.specs.declared.Memory.TheVariants.{Rom}
use Rattle.runs.specs.Honest.{filled_row, end_row, occurrences, rom_from, rom_ends_from, operations_filled}
use Rattle.runs.specs.Filler.{inputs_in, row_numbers}
use Rattle.words.specs.Inputs.{value_at, op_at, guard_at, addr_at, input_at}
use Rattle.words.specs.Counts.{lookup, lookups_in}
use Rattle.index.specs.Values.{values_in}
use Rattle.filler.specs.Steps.{Turn, turn_of, rom_told, RomReady}
use Rattle.filler.specs.Ends.{value_ends}
use Rattle.faults.specs.Scan.{leveled}
use Rattle.index.proofs.Values.{values_at}
use Rattle.filler.proofs.Inputs.{inputs_count, values_count}
use Rattle.filler.proofs.Forms.{form_rom}
use Rattle.filler.proofs.Onward.{Given, Onward, onward_start, onward_next, onward_as, Clean, clean_turn, inside_rom, copied_words}
use Rattle.words.proofs.Counted.{looked_more}
use Rattle.filler.proofs.Counts.{occurrences_few, read_turn}

-- the turn of operation k
abbrev pub rom_turn : ℕ → List ℕ → List ℕ → List ℕ → Turn
rom_turn k inits ops s = turn_of ops k (rom_told (record { clock = 1; head = 0; tail = 0 }) (addr_at ops k) inits s)

pub record RomRun (w t : ℕ) (inits ops out₀ : List ℕ) (k : ℕ) (out s : List ℕ) : Type 0 where
  pub keys : List ℕ
  pub looked : length keys ≡ k
  pub counts : (j : ℕ) → j < w → lookups_in (get_or s j 0) ≡ occurrences j keys
  pub roomy : w ≤ length s
  pub onward : Onward (operations_filled Rom t (values_in inits) (inputs_in ops)) (rom_from (values_in inits) keys (drop k (inputs_in ops))) k out₀ out
  pub clean : Clean Rom (values_in inits) w (drop k (inputs_in ops))

module _ (w t : ℕ) (inits ops out₀ : List ℕ) (given : Given w t ops out₀) (count : 4 * w ≡ length inits) (k : ℕ) (out s : List ℕ) (run : RomRun w t inits ops out₀ k out s) (more : k < t) where
  rom_inside : addr_at ops k < w
  rom_inside =
      let turn = clean_turn Rom (values_in inits) w ops k (omega arith) run.clean in
      inside_rom (values_in inits) w (op_at ops k) (guard_at ops k) (addr_at ops k) (value_at ops k) turn.here.possible

  pub rom_ready : RomReady (addr_at ops k) s
  rom_ready =
      let inside : addr_at ops k < w = rom_inside in
      record {
        inside = let r = run.roomy in omega arith;
        low = omega (arith, run.counts (addr_at ops k) inside, occurrences_few (addr_at ops k) run.keys, run.looked, given.short);
      }

  pub rom_turn_lem : RomRun w t inits ops out₀ (k + 1) (sets out (7 * k) (rom_turn k inits ops s).words) (rom_turn k inits ops s).scratch
  unfolding rom_told rom_from leveled input_at
  rom_turn_lem =
      let turn = clean_turn Rom (values_in inits) w ops k (omega arith) run.clean in
      let inside : addr_at ops k < w = rom_inside in
      let key : ℕ = addr_at ops k in
      let op : op_at ops k ≡ 2 = form_rom (op_at ops k) (guard_at ops k) key (value_at ops k) turn.here.formed in
      let old : value_at inits key ≡ get_or (values_in inits) key 0 = values_at inits key in
      record {
        keys = key ∷ run.keys;
        looked = let l = run.looked in omega arith;
        counts = read_turn lookups_in (λ x. x + lookup) looked_more (λ j. j) (λ i j e. e) s w (λ j. j) run.keys key key run.counts (let r = run.roomy in omega arith) inside refl (λ j e. e);
        roomy = subst (λ (n : ℕ). w ≤ n) (sym (length-set s key (get_or s key 0 + lookup))) run.roomy;
        onward = onward_next w t ops given more (rom_from (values_in inits) run.keys) (rom_from (values_in inits) (key ∷ run.keys))
            (filled_row (input_at ops k) (get_or (values_in inits) key 0) 0 (occurrences key run.keys))
            (rom_turn k inits ops s).words
            run.onward
            refl
            (copied_words ops k (value_at inits key) 0 (lookups_in (get_or s key 0)) (omega arith)
            ∙ (λ i. row_numbers (filled_row (input_at ops k) (old i) 0 (run.counts key inside i) ∷ [])));
        clean = turn.later;
      }

-- counts of the addresses from k on give the end rows of the values from there on
rom_ends_from_lem : (w : ℕ) (values s : List ℕ) (keys : List ℕ) (k : ℕ) → ((j : ℕ) → j < w → lookups_in (get_or s j 0) ≡ occurrences j keys) → k + length values ≤ w
    → rom_ends_from k values keys ≡ value_ends k values s
unfolding rom_ends_from value_ends
rom_ends_from_lem w [] s keys k counts h = refl
rom_ends_from_lem w (v ∷ values) s keys k counts h =
    λ i. end_row v 0 0 (sym (counts k (omega arith)) i) ∷ rom_ends_from_lem w values s keys (suc k) counts (omega arith) i

pub rom_ends_lem : (w t : ℕ) (inits ops out₀ out s : List ℕ) → Given w t ops out₀ → 4 * w ≡ length inits → (run : RomRun w t inits ops out₀ t out s)
    → Onward (operations_filled Rom t (values_in inits) (inputs_in ops)) (value_ends 0 (values_in inits) s) t out₀ out
unfolding rom_from
rom_ends_lem w t inits ops out₀ out s given count run =
    let past : drop t (inputs_in ops) ≡ [] = drop_of_length-le (inputs_in ops) {i = t} (omega (arith, inputs_count ops t given.rows)) in
    onward_as (value_ends 0 (values_in inits) s)
    (ap (rom_from (values_in inits) run.keys) past
    ∙ rom_ends_from_lem w (values_in inits) s run.keys 0 run.counts (omega (arith, values_count inits w count)))
    run.onward

pub rom_start : (w t : ℕ) (inits ops out s : List ℕ) → ((j : ℕ) → get_or s j 0 ≡ 0) → w ≤ length s → Clean Rom (values_in inits) w (inputs_in ops)
    → RomRun w t inits ops out 0 out s
unfolding operations_filled occurrences lookups_in lookup
rom_start w t inits ops out s zeros roomy clean = record {
  keys = [];
  looked = refl;
  counts = λ j h. ap lookups_in (zeros j);
  roomy = roomy;
  onward = onward_start _ out;
  clean = clean;
}
