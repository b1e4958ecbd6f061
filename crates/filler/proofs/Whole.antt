-- What a fill leaves, as the definition has it.
--     sized_limit, allowed_size, allowed_count    what an allowed size and count are
--     refused_is, filled_is    a refused row, and a fill
--     used_blank, used_filled    a fill with the scratch words that are used, and with all
--     all_rows, roomy, away_unknown, away, not_away    what the library answers before it reads a row
--     parts_filled    the rows in two parts, as they are lent
-- Assumes nothing.
use Prim.Native.Nat.{ℕ, ◌+◌, ◌*◌, ◌≤◌}
use native.Mathlib.Omega.{arith}
use native.Mathlib.Nat.{zero-add}
use mathlib.Core.Bool.{Bool, true, false, cond, ◌&&◌}
use Rattle.std.specs.Prelude.{Option, None, Some, Result, Ok, Err, ok_or}
use mathlib.Core.Path.{◌≡◌, refl, sym, ap, ◌∙◌}
use mathlib.Core.List.{List, ◌++◌, map}
use lib.Dec.{eqb, leb}
use lib.ListN.{length, get_or, take, drop, replicate, length-replicate, take-append-drop}
use lib.Seq.{length-take-le}
use borrow.Author.Tests.{eq-eqb, ne_eqb, leb-true, eqb-true}
use Rattle.memory.specs.declared.Memory.{Memory}
use Rattle.memory.specs.declared.Memory.TheVariants.{Ram, Rom, Set, Stack, Queue}
use Rattle.memory.specs.Rows.{limit, sized, allowed}
use Rattle.runs.specs.Honest.{Input, filled_rows}
use Rattle.runs.specs.Filler.{inputs_in, row_numbers, rows_fault, room, Filling, Placed, placed, turned_away, row_refused, filled_with, fill_rows, fill_memory, fill_of}
use Rattle.memory.specs.Names.{memory_coded}
use Rattle.memory.specs.declared.faults.Fault.{Fault}
use Rattle.memory.specs.declared.faults.Fault.TheVariants.{NotAllowed}
use Rattle.memory.specs.Faults.{fault_number}
use Rattle.faults.specs.declared.Refused.{Refused}
use Rattle.faults.specs.Scan.{placed_of}
use Rattle.faults.proofs.Scanned.{fault_some}
use Rattle.filler.specs.Answer.{filled_of, away_by, Roomy, Fills}
use Rattle.layout.specs.Laid.{laid}
use Rattle.filler.proofs.Inputs.{inputs_take, inputs_drop}
use Rattle.filler.proofs.Tree.{blank_all, blank_part}

and_both : (a b : Bool) → (a && b) ≡ true → (a ≡ true) × (b ≡ true)
and_both true b e = (refl, e)
and_both false b e = (e, absurd (no e))
  where
    no : false ≡ true → ⊥
    no e = omega (arith, ap {B = ℕ} (λ b. cond b 0 1) e)

pub sized_limit : (m : Memory) (n : ℕ) → sized m n ≡ true → n ≤ limit
unfolding sized
sized_limit Ram n e = leb-true n limit e
sized_limit Rom n e = leb-true n limit e
sized_limit Set n e = leb-true n limit e
sized_limit Stack n e = omega (arith, eqb-true n 0 e)
sized_limit Queue n e = omega (arith, eqb-true n 0 e)

pub allowed_size : (m : Memory) (n t : ℕ) → allowed m n t ≡ true → sized m n ≡ true
unfolding allowed
allowed_size m n t e = (and_both (sized m n) (leb t limit) e).0

pub allowed_count : (m : Memory) (n t : ℕ) → allowed m n t ≡ true → t ≤ limit
unfolding allowed
allowed_count m n t e = leb-true t limit (and_both (sized m n) (leb t limit) e).1

-- of a filling, they are also those of any equal one
pub fills_same : {f g : Filling} {r : Result ℕ Refused} {out s : List ℕ} → Fills f r out s → f ≡ g → Fills g r out s
fills_same h e = record { answer = h.answer ∙ ap filled_of e; output = h.output ∙ ap (λ (f : Filling). f.output) e; words = h.words ∙ ap (λ (f : Filling). f.scratch) e }

-- a refusal
refused_fills : (r : Refused) (out s : List ℕ) → Fills (record { answer = fault_number r.fault; place = r.place; count = 0; output = out; scratch = s }) (Err r) out s
unfolding filled_of
refused_fills r out s = record { answer = rw (ne_eqb (fault_number r.fault) 0 (fault_some r.fault)) refl; output = refl; words = refl }

module _ (q : ℕ) (m : Memory) (t : ℕ) (inits ops : List Input) (out s out' s' : List ℕ) where
  first : Placed
  first = rows_fault q m (map (λ i. i.value) inits) 1 inits ops

  pub refused_is : (r : Refused) → placed_of {A = Unit {0}} (Err r) ≡ rows_fault q m (map (λ i. i.value) inits) 1 inits ops
      → out' ≡ replicate (length out) 0 → s' ≡ replicate (length s) 0 → Fills (fill_rows q m t inits ops out s) (Err r) out' s'
  unfolding fill_rows row_refused first placed
  refused_is r is o b =
      fills_same (refused_fills r out' s')
      ((λ i. record { answer = (is i).number; place = (is i).place; count = 0; output = o i; scratch = b i })
      ∙ sym (ap (λ (c : Bool). cond c (filled_with (filled_rows m t inits ops) out s) (row_refused first out s)) (ne_eqb first.number 0 (λ e. fault_some r.fault (ap (λ (x : Placed). x.number) is ∙ e)))))

  pub filled_is : (count : ℕ) → (rows_fault q m (map (λ i. i.value) inits) 1 inits ops).number ≡ 0
      → out' ≡ laid out 0 (filled_rows m t inits ops) → s' ≡ replicate (length s) 0 → count ≡ length (filled_rows m t inits ops)
      → Fills (fill_rows q m t inits ops out s) (Ok count) out' s'
  unfolding fill_rows filled_of filled_with laid first
  filled_is count clean o b c =
      let R : List ℕ = row_numbers (filled_rows m t inits ops) in
      let written : out' ≡ R ++ drop (length R) out = o ∙ ap (λ (n : ℕ). R ++ drop n out) (zero-add (length R)) in
      fills_same {f = record { answer = 0; place = 0; count = count; output = out'; scratch = s' }} (record { answer = refl; output = refl; words = refl })
      ((λ i. record { answer = 0; place = 0; count = c i; output = written i; scratch = b i })
      ∙ sym (ap (λ (x : Bool). cond x (filled_with (filled_rows m t inits ops) out s) (row_refused first out s)) (eq-eqb first.number 0 clean)))

-- the first words of blank ones are blank
used_part : (u : ℕ) (s s₁ : List ℕ) → s₁ ≡ replicate (length s) 0 → u ≤ length s → take u s₁ ≡ replicate u 0
used_part u s s₁ e h =
    blank_part u s₁ (omega (arith, ap length e, length-replicate {A = ℕ} (length s) 0)) (λ j. ap (λ (l : List ℕ). get_or l j 0) e ∙ blank_all (length s) j)

pub used_blank : (u : ℕ) (s s₁ : List ℕ) → s₁ ≡ replicate (length s) 0 → u ≤ length s → (j : ℕ) → get_or (take u s₁) j 0 ≡ 0
used_blank u s s₁ e h j = ap (λ (l : List ℕ). get_or l j 0) (used_part u s s₁ e h) ∙ blank_all u j

-- what a fill with the first u of blank scratch words leaves, with all of them
module _ (q : ℕ) (m : Memory) (t : ℕ) (inits ops : List Input) (out s s₁ : List ℕ) (u : ℕ) (blank : s₁ ≡ replicate (length s) 0) (fits : u ≤ length s) where
  fault : Placed
  fault = rows_fault q m (map (λ i. i.value) inits) 1 inits ops

  by : Bool → List ℕ → Filling
  by b l = cond b (filled_with (filled_rows m t inits ops) out l) (row_refused fault out l)

  blank_left : (b : Bool) (l : List ℕ) → (by b l).scratch ≡ replicate (length l) 0
  unfolding by filled_with row_refused
  blank_left true l = refl
  blank_left false l = refl

  same_answer : (b : Bool) (l : List ℕ) → filled_of (by b l) ≡ filled_of (by b s)
  unfolding by filled_with row_refused filled_of
  same_answer true l = refl
  same_answer false l = refl

  same_output : (b : Bool) (l : List ℕ) → (by b l).output ≡ (by b s).output
  unfolding by filled_with row_refused
  same_output true l = refl
  same_output false l = refl

  pub used_filled : (out' part : List ℕ) (r : Result ℕ Refused) → Fills (fill_rows q m t inits ops out (take u s₁)) r out' part → Fills (fill_rows q m t inits ops out s) r out' (part ++ drop u s₁)
  unfolding fill_rows fault by
  used_filled out' part r h =
      let b = eqb fault.number 0 in
      let long : length (take u s₁) ≡ u = length-take-le u s₁ (omega (arith, ap length blank, length-replicate {A = ℕ} (length s) 0)) in
      let left : part ≡ take u s₁ =
      h.words ∙ blank_left b (take u s₁) ∙ ap (λ (k : ℕ). replicate k 0) long ∙ sym (used_part u s s₁ blank fits) in
      let whole : part ++ drop u s₁ ≡ replicate (length s) 0 = ap (λ (l : List ℕ). l ++ drop u s₁) left ∙ take-append-drop u s₁ ∙ blank in
      record { answer = h.answer ∙ same_answer b (take u s₁); output = h.output ∙ same_output b (take u s₁); words = whole ∙ sym (blank_left b s) }

-- the rows in two parts, as they are lent
module _ (rows inits ops : List ℕ) (n t : ℕ) (front : inits ≡ take (4 * n) rows) (back : ops ≡ drop (4 * n) rows) (all : length rows ≡ 4 * (n + t)) where
  pub parts_filled : (q : ℕ) (m : Memory) (out s : List ℕ)
      → fill_rows q m t (inputs_in inits) (inputs_in ops) out s ≡ fill_rows q m t (take n (inputs_in rows)) (drop n (inputs_in rows)) out s
  parts_filled q m out s =
      let is = ap inputs_in front ∙ inputs_take rows n (omega arith) in
      let os = ap inputs_in back ∙ inputs_drop rows n (omega arith) in
      λ i. fill_rows q m t (is i) (os i) out s

-- what the library answers before it reads a row, by the four tests
turned_either : (out s : List ℕ) (full : Filling) {number : ℕ} (a b c d : Bool) → number ≡ cond a (cond b (cond c (cond d 0 15) 14) 7) 4 → (number ≡ 0 → ⊥)
    → turned_away number out s ≡ cond a (cond b (cond c (cond d full (turned_away 15 out s)) (turned_away 14 out s)) (turned_away 7 out s)) (turned_away 4 out s)
turned_either out s full true true true true is some = absurd (some is)
turned_either out s full true true true false is some = ap (λ (f : ℕ). turned_away f out s) is
turned_either out s full true true false d is some = ap (λ (f : ℕ). turned_away f out s) is
turned_either out s full true false c d is some = ap (λ (f : ℕ). turned_away f out s) is
turned_either out s full false b c d is some = ap (λ (f : ℕ). turned_away f out s) is

all_four : (a b c d : Bool) → ◌≡◌ {A = ℕ} (cond a (cond b (cond c (cond d 0 15) 14) 7) 4) 0 → (a ≡ true) × (b ≡ true) × (c ≡ true) × (d ≡ true)
all_four true true true true e = (refl, refl, refl, refl)
all_four true true true false e = absurd (omega (arith, e))
all_four true true false d e = absurd (omega (arith, e))
all_four true false c d e = absurd (omega (arith, e))
all_four false b c d e = absurd (omega (arith, e))

module _ (m : Memory) (n t : ℕ) (rows out s : List ℕ) (none : 0 ≡ away_by m n t (length rows) (length out) (length s)) where
  tested : (allowed m n t ≡ true) × (eqb (length rows) (4 * (n + t)) ≡ true) × (leb (7 * room n t) (length out) ≡ true) × (leb (room n t) (length s) ≡ true)
  unfolding away_by
  tested = all_four (allowed m n t) (eqb (length rows) (4 * (n + t))) (leb (7 * room n t) (length out)) (leb (room n t) (length s)) (sym none)

  pub all_rows : length rows ≡ 4 * (n + t)
  all_rows = eqb-true (length rows) (4 * (n + t)) tested.1

  pub roomy : Roomy m n t out s
  roomy = record { proper = tested.0; out_room = leb-true (7 * room n t) (length out) tested.2; scratch_room = leb-true (room n t) (length s) tested.3 }

module _ (q k n t : ℕ) (rows out s : List ℕ) where
  pub away_unknown : (f : Fault) → Err f ≡ ok_or (memory_coded k) NotAllowed → Fills (fill_of q k n t rows out s) (Err (record { fault = NotAllowed; place = 0 })) out s
  unfolding fill_of fill_memory turned_away
  away_unknown f e = go (memory_coded k) e
    where
      go : (o : Option Memory) → Err f ≡ ok_or o NotAllowed → Fills (fill_memory q o n t rows out s) (Err (record { fault = NotAllowed; place = 0 })) out s
      go None e = refused_fills (record { fault = NotAllowed; place = 0 }) out s
      go (Some m) e = absurd (cc)

  module _ (m : Memory) (known : Ok m ≡ ok_or (memory_coded k) NotAllowed) where
    coded : memory_coded k ≡ Some m
    coded = go (memory_coded k) known
      where
        go : (o : Option Memory) → Ok m ≡ ok_or o NotAllowed → o ≡ Some m
        go None e = absurd (cc)
        go (Some x) e = cc

    pub away : (f : Fault) → fault_number f ≡ away_by m n t (length rows) (length out) (length s) → Fills (fill_of q k n t rows out s) (Err (record { fault = f; place = 0 })) out s
    unfolding fill_of fill_memory turned_away away_by
    away f is =
        fills_same (refused_fills (record { fault = f; place = 0 }) out s)
        (turned_either out s (fill_rows q m t (take n (inputs_in rows)) (drop n (inputs_in rows)) out s) (allowed m n t) (eqb (length rows) (4 * (n + t))) (leb (7 * room n t) (length out)) (leb (room n t) (length s)) is (fault_some f)
        ∙ sym (ap (λ (o : Option Memory). fill_memory q o n t rows out s) coded))

    pub not_away : 0 ≡ away_by m n t (length rows) (length out) (length s) → fill_rows q m t (take n (inputs_in rows)) (drop n (inputs_in rows)) out s ≡ fill_of q k n t rows out s
    unfolding fill_of fill_memory away_by
    not_away e =
        let four = all_four (allowed m n t) (eqb (length rows) (4 * (n + t))) (leb (7 * room n t) (length out)) (leb (room n t) (length s)) (sym e) in
        simp (coded, four.0, four.1, four.2, four.3)
