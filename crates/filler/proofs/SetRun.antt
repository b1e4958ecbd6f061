-- A run of members: the scratch words count the lookups of each element, of equal ones at the
-- first.
--     set_start       before the first member
--     set_ready, set_turn_lem    a member is possible, and after it the run is one member further
--     set_ends        after all of them the counts give the end rows
-- Assumes nothing.
use Prim.Native.Nat.{ℕ, suc, ◌+◌, ◌*◌, ◌≤◌, ◌<◌}
use native.Mathlib.Omega.{arith}
use native.Mathlib.Decide.{ℕ_discrete}
use mathlib.Core.Bool.{Bool, true, false, cond, ◌||◌}
use mathlib.Core.Path.{◌≡◌, refl, sym, ap, subst, ◌∙◌}
use mathlib.Core.List.{List, [], ◌∷◌}
use lib.Dec.{eqb, ltb}
use lib.ListN.{length, get_or, drop, replicate, length-set, drop_of_length-le}
use lib.Seq.{sets, get_or-set_same, get_or-set_other, drop-cons, get_or-take}
use borrow.Author.Tests.{ltb-true, ltb-false, eqb-true, eq-eqb, ne_eqb, lt-ltb, le-ltb}
use Rattle.memory.specs.declared.Memory.TheVariants.{Set}
use Rattle.runs.specs.Plain.{among}
use Rattle.runs.specs.Honest.{filled_row, end_row, occurrences, set_from, set_ends_from, operations_filled}
use Rattle.runs.specs.Filler.{inputs_in, row_numbers}
use Rattle.words.specs.Inputs.{value_at, op_at, guard_at, addr_at, input_at}
use Rattle.words.specs.Counts.{lookup, lookups_in, links_in}
use Rattle.index.specs.Values.{values_in, first_at}
use Rattle.index.specs.Tree.{grown}
use Rattle.filler.specs.Words.{TreeIn}
use Rattle.filler.specs.Steps.{Turn, turn_of, key_counted, set_told, SetReady}
use Rattle.filler.specs.Ends.{value_ends}
use Rattle.filler.specs.Write.{TreeBuilt}
use Rattle.faults.specs.Scan.{leveled}
use Rattle.filler.proofs.Inputs.{inputs_count, values_count}
use Rattle.index.proofs.Links.{grown_low}
use Rattle.index.proofs.Places.{among_first}
use Rattle.words.proofs.Counted.{looked_more, links_kept, unlooked_low}
use Rattle.filler.proofs.Members.{first_at_lem, first_low}
use Rattle.filler.proofs.Tree.{blank_all}
use Rattle.filler.proofs.Forms.{form_set}
use Rattle.filler.proofs.Onward.{Given, Onward, onward_start, onward_next, onward_as, Clean, CleanTurn, clean_turn, inside_set, copied_words}
use Rattle.filler.proofs.Counts.{occurrences_few, occurrences_same, occurrences_other}

-- the lookups that element j is given
abbrev share : List ℕ → List ℕ → ℕ → ℕ
share values keys j = cond (eqb (first_at (get_or values j 0) values) j) (occurrences (get_or values j 0) keys) 0

-- the turn of operation k
abbrev pub set_turn : ℕ → List ℕ → List ℕ → List ℕ → Turn
set_turn k inits ops s = turn_of ops k (set_told (record { clock = 1; head = 0; tail = 0 }) (value_at ops k) inits s)

pub record SetRun (w t : ℕ) (inits ops out₀ : List ℕ) (k : ℕ) (out s : List ℕ) : Type 0 where
  pub keys : List ℕ
  pub looked : length keys ≡ k
  pub counts : (j : ℕ) → j < w → lookups_in (get_or s j 0) ≡ share (values_in inits) keys j
  pub tree : TreeIn w inits s
  pub onward : Onward (operations_filled Set t (values_in inits) (inputs_in ops)) (set_from (values_in inits) keys (drop k (inputs_in ops))) k out₀ out
  pub clean : Clean Set (values_in inits) w (drop k (inputs_in ops))

module _ (w t : ℕ) (inits ops out₀ : List ℕ) (given : Given w t ops out₀) (count : 4 * w ≡ length inits) (k : ℕ) (out s : List ℕ) (run : SetRun w t inits ops out₀ k out s) (more : k < t) where
  set_clean : CleanTurn Set (values_in inits) w ops k
  set_clean = clean_turn Set (values_in inits) w ops k (let g = given.rows in omega arith) run.clean

  values : List ℕ
  values = values_in inits

  -- the element looked up, and its first place
  x : ℕ
  x = value_at ops k

  key : ℕ
  key = first_at x values

  many : length values ≡ w
  unfolding values
  many = values_count inits w count

  member : key < length values
  unfolding key x values
  member =
      ltb-true key (length values)
      (sym (among_first x values) ∙ inside_set (values_in inits) w (op_at ops k) (guard_at ops k) (addr_at ops k) (value_at ops k) set_clean.here.possible)

  key_at : get_or values key 0 ≡ x
  unfolding key
  key_at = first_at_lem x values member

  -- the first place of the element there is the place itself
  key_first : eqb (first_at (get_or values key 0) values) key ≡ true
  unfolding key
  key_first = eq-eqb _ _ (ap (λ (y : ℕ). first_at y values) key_at)

  version : lookups_in (get_or s key 0) ≡ occurrences x run.keys
  unfolding values
  version =
      let m = member in
      let c = many in
      run.counts key (omega arith) ∙ ap (λ (b : Bool). cond b (occurrences (get_or values key 0) run.keys) 0) key_first ∙ ap (λ (y : ℕ). occurrences y run.keys) key_at

  pub set_ready : SetReady w (value_at ops k) inits s
  unfolding key x values
  set_ready = record {
    tree = run.tree;
    countable = record {
      inside = let r = run.tree.room in let m = member in let c = many in omega arith;
      low = omega (arith, version, occurrences_few x run.keys, run.looked, given.short);
    };
  }

  -- the words after the lookup
  s₁ : List ℕ
  s₁ = key_counted s key

  looked_at : get_or s₁ key 0 ≡ get_or s key 0 + lookup
  unfolding s₁
  looked_at = let r = run.tree.room in let m = member in let c = many in get_or-set_same s key (get_or s key 0 + lookup) 0 (omega arith)

  kept : (j : ℕ) → (j ≡ key → ⊥) → get_or s₁ j 0 ≡ get_or s j 0
  unfolding s₁
  kept j n = get_or-set_other s key j (get_or s key 0 + lookup) 0 n

  counts' : (j : ℕ) → j < w → lookups_in (get_or s₁ j 0) ≡ share values (x ∷ run.keys) j
  unfolding values key
  counts' j h = go (ℕ_discrete j key)
    where
      other : (j ≡ key → ⊥) → (b : Bool) → eqb (first_at (get_or values j 0) values) j ≡ b → cond b (occurrences (get_or values j 0) run.keys) 0 ≡ cond b (occurrences (get_or values j 0) (x ∷ run.keys)) 0
      other n true e = sym (occurrences_other (get_or values j 0) x run.keys (λ q. n (sym (eqb-true _ j e) ∙ ap (λ (y : ℕ). first_at y values) q)))
      other n false e = refl

      go : Dec (j ≡ key) → lookups_in (get_or s₁ j 0) ≡ share values (x ∷ run.keys) j
      go (yes e) =
          ap (λ (i : ℕ). lookups_in (get_or s₁ i 0)) e
          ∙ ap lookups_in looked_at
          ∙ looked_more (get_or s key 0)
          ∙ ap (λ (n : ℕ). n + 1) (version ∙ ap (λ (y : ℕ). occurrences y run.keys) (sym key_at))
          ∙ sym (occurrences_same (get_or values key 0) x run.keys key_at)
          ∙ sym (ap (λ (b : Bool). cond b (occurrences (get_or values key 0) (x ∷ run.keys)) 0) key_first)
          ∙ ap (share values (x ∷ run.keys)) (sym e)
      go (no n) = ap lookups_in (kept j n) ∙ run.counts j h ∙ other n (eqb (first_at (get_or values j 0) values) j) refl

  tree' : TreeIn w inits s₁
  tree' = record {
    held = run.tree.held;
    few = run.tree.few;
    room = subst (λ (n : ℕ). w ≤ n) (sym long) run.tree.room;
    links = λ j h. same j (ℕ_discrete j key) ∙ run.tree.links j h;
  }
    where
      long : length s₁ ≡ length s
      long = unfold s₁ in length-set s key (get_or s key 0 + lookup)

      same : (j : ℕ) → Dec (j ≡ key) → links_in (get_or s₁ j 0) ≡ links_in (get_or s j 0)
      same j (yes e) =
          ap (λ (i : ℕ). links_in (get_or s₁ i 0)) e ∙ ap links_in looked_at ∙ links_kept (get_or s key 0) ∙ ap (λ (i : ℕ). links_in (get_or s i 0)) (sym e)
      same j (no n) = ap links_in (kept j n)

  pub set_turn_lem : SetRun w t inits ops out₀ (k + 1) (sets out (7 * k) (set_turn k inits ops s).words) (set_turn k inits ops s).scratch
  unfolding set_told set_from leveled input_at key x values s₁
  set_turn_lem = record {
    keys = x ∷ run.keys;
    looked = let l = run.looked in omega arith;
    counts = counts';
    tree = tree';
    onward = onward_next w t ops given more (set_from values run.keys) (set_from values (x ∷ run.keys))
        (filled_row (input_at ops k) 0 0 (occurrences x run.keys))
        (set_turn k inits ops s).words
        run.onward
        refl
        (copied_words ops k 0 0 (lookups_in (get_or s key 0)) (omega (arith, form_set (op_at ops k) (guard_at ops k) (addr_at ops k) (value_at ops k) set_clean.here.formed))
        ∙ ap (λ (v : ℕ). row_numbers (filled_row (input_at ops k) 0 0 v ∷ [])) version);
    clean = set_clean.later;
  }

-- counts of the elements from j on give the end rows of the elements from there on, where `earlier`
-- are the elements before
module _ (w : ℕ) (values s keys : List ℕ) (counts : (j : ℕ) → j < w → lookups_in (get_or s j 0) ≡ share values keys j) (many : length values ≡ w) where
  -- the element at j is among those before it unless j is its first place
  first_or_among : (j : ℕ) (earlier : List ℕ) → j < w → ((x : ℕ) → among x earlier ≡ ltb (first_at x values) j)
      → share values keys j ≡ cond (among (get_or values j 0) earlier) 0 (occurrences (get_or values j 0) keys)
  first_or_among j earlier h before = go (ℕ_discrete (first_at v values) j)
    where
      v : ℕ
      v = get_or values j 0

      low : first_at v values ≤ j
      low = first_low v values j (omega (arith, many)) refl

      go : Dec (first_at v values ≡ j) → share values keys j ≡ cond (among v earlier) 0 (occurrences v keys)
      go (yes e) =
          ap (λ (b : Bool). cond b (occurrences v keys) 0) (eq-eqb _ _ e)
          ∙ sym (ap (λ (b : Bool). cond b 0 (occurrences v keys)) (before v ∙ le-ltb (first_at v values) j (omega arith)))
      go (no n) =
          ap (λ (b : Bool). cond b (occurrences v keys) 0) (ne_eqb _ _ n)
          ∙ sym (ap (λ (b : Bool). cond b 0 (occurrences v keys)) (before v ∙ lt-ltb (first_at v values) j (less low n)))
        where
          less : first_at v values ≤ j → (first_at v values ≡ j → ⊥) → first_at v values < j
          less a b = omega arith

  -- one element more before
  before_more : (j : ℕ) (earlier : List ℕ) → j < w → ((x : ℕ) → among x earlier ≡ ltb (first_at x values) j)
      → (x : ℕ) → among x (get_or values j 0 ∷ earlier) ≡ ltb (first_at x values) (suc j)
  unfolding among
  before_more j earlier h before x = go (ℕ_discrete x (get_or values j 0))
    where
      go : Dec (x ≡ get_or values j 0) → (eqb x (get_or values j 0) || among x earlier) ≡ ltb (first_at x values) (suc j)
      go (yes e) =
          ap (λ (b : Bool). b || among x earlier) (eq-eqb _ _ e)
          ∙ sym (lt-ltb (first_at x values) (suc j) (let l = first_low x values j (omega (arith, many)) (sym e) in omega arith))
      go (no n) = ap (λ (b : Bool). b || among x earlier) (ne_eqb _ _ n) ∙ before x ∙ skipped (ℕ_discrete (first_at x values) j)
        where
          skipped : Dec (first_at x values ≡ j) → ltb (first_at x values) j ≡ ltb (first_at x values) (suc j)
          skipped (yes e) = absurd (n (sym (ap (λ (i : ℕ). get_or values i 0) (sym e) ∙ first_at_lem x values (omega (arith, many)))))
          skipped (no m) = go' (ltb (first_at x values) j) refl
            where
              go' : (b : Bool) → ltb (first_at x values) j ≡ b → b ≡ ltb (first_at x values) (suc j)
              go' true e = sym (lt-ltb (first_at x values) (suc j) (let l = ltb-true (first_at x values) j e in omega arith))
              go' false e = sym (le-ltb (first_at x values) (suc j) (let l = ltb-false (first_at x values) j e in more l m))
                where
                  more : j ≤ first_at x values → (first_at x values ≡ j → ⊥) → suc j ≤ first_at x values
                  more a b = omega arith

  set_ends_from_lem : (vs earlier : List ℕ) (j : ℕ) → drop j values ≡ vs → j + length vs ≡ w → ((x : ℕ) → among x earlier ≡ ltb (first_at x values) j)
      → set_ends_from earlier vs keys ≡ value_ends j vs s
  unfolding set_ends_from value_ends
  set_ends_from_lem [] earlier j e l before = refl
  set_ends_from_lem (v ∷ vs) earlier j e l before =
      let low : j < w = omega arith in
      let split : drop j values ≡ get_or values j 0 ∷ drop (suc j) values = drop-cons values j 0 (omega (arith, many)) in
      let head : get_or values j 0 ≡ v = ap (λ (r : List ℕ). get_or r 0 0) (sym split ∙ e) in
      let tail : drop (suc j) values ≡ vs = ap (λ (r : List ℕ). drop 1 r) (sym split ∙ e) in
      let version : cond (among v earlier) 0 (occurrences v keys) ≡ lookups_in (get_or s j 0) =
      ap (λ (y : ℕ). cond (among y earlier) 0 (occurrences y keys)) (sym head) ∙ sym (first_or_among j earlier low before) ∙ sym (counts j low) in
      let later = set_ends_from_lem vs (v ∷ earlier) (suc j) tail (omega arith) (subst (λ (y : ℕ). (x : ℕ) → among x (y ∷ earlier) ≡ ltb (first_at x values) (suc j)) head (before_more j earlier low before)) in
      λ i. end_row v 0 0 (version i) ∷ later i

pub set_ends : (w t : ℕ) (inits ops out₀ out s : List ℕ) → Given w t ops out₀ → 4 * w ≡ length inits → (run : SetRun w t inits ops out₀ t out s)
    → Onward (operations_filled Set t (values_in inits) (inputs_in ops)) (value_ends 0 (values_in inits) s) t out₀ out
unfolding set_from among
set_ends w t inits ops out₀ out s given count run =
    let past : drop t (inputs_in ops) ≡ [] = drop_of_length-le (inputs_in ops) {i = t} (omega (arith, inputs_count ops t given.rows)) in
    let many : length (values_in inits) ≡ w = values_count inits w count in
    onward_as (value_ends 0 (values_in inits) s)
    (ap (set_from (values_in inits) run.keys) past
    ∙ set_ends_from_lem w (values_in inits) s run.keys run.counts many (values_in inits) [] 0 refl (omega arith) (λ x. sym (le-ltb (first_at x (values_in inits)) 0 (omega arith))))
    run.onward

pub set_start : (w t : ℕ) (inits ops out s : List ℕ) → TreeBuilt w inits s → Clean Set (values_in inits) w (inputs_in ops) → SetRun w t inits ops out 0 out s
unfolding operations_filled occurrences
set_start w t inits ops out s built clean = record {
  keys = [];
  looked = refl;
  counts = λ j h. unlooked j h ∙ none (eqb (first_at (get_or (values_in inits) j 0) (values_in inits)) j);
  tree = record { held = built.held; few = built.few; room = built.room; links = λ j h. ap links_in (word j h) };
  onward = onward_start _ out;
  clean = clean;
}
  where
    word : (j : ℕ) → j < w → get_or s j 0 ≡ get_or (grown (values_in inits) (replicate w 0)) j 0
    word j h = sym (get_or-take w s j 0 h) ∙ ap (λ (l : List ℕ). get_or l j 0) built.is

    unlooked : (j : ℕ) → j < w → lookups_in (get_or s j 0) ≡ 0
    unlooked j h = unlooked_low (get_or s j 0) (omega (arith, word j h, grown_low (values_in inits) (replicate w 0) (λ i. unfold lookup in omega (arith, blank_all w i)) j))

    none : (b : Bool) → ◌≡◌ {A = ℕ} 0 (cond b 0 0)
    none true = refl
    none false = refl
