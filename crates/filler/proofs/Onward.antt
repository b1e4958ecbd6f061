-- A run of operations part of the way: the rows written and those left make up all rows, and no
-- operation left has a fault.
--     onward_start, onward_turn    before the first operation, and after one more
--     clean_turn      where no operation left has a fault, the one there has none, and neither have those after it
--     inside_ram … held_queue     what a row that is possible is
--     copied_words    the words of an operation's row
-- Assumes nothing.
use Prim.Native.Nat.{ℕ, suc, ◌+◌, ◌*◌, ◌≤◌, ◌<◌}
use native.Mathlib.Omega.{arith}
use native.Mathlib.Numerals.{add-one}
use mathlib.Core.Bool.{Bool, true, false, cond}
use mathlib.Core.Path.{◌≡◌, refl, sym, ap, ◌∙◌}
use mathlib.Core.List.{List, [], ◌∷◌}
use lib.Dec.{eqb, ltb}
use lib.ListN.{length, drop}
use lib.Seq.{sets, length-sets}
use borrow.Author.Tests.{eqb-true, eqb-false, ltb-true, eq-eqb, ne_eqb}
use Rattle.memory.specs.declared.Memory.{Memory}
use Rattle.memory.specs.declared.Memory.TheVariants.{Ram, Rom, Set, Stack, Queue}
use Rattle.memory.specs.declared.Row.{Row}
use Rattle.memory.specs.declared.Phase.TheVariants.{Operating}
use Rattle.memory.specs.Rows.{ops_due, limit}
use Rattle.runs.specs.Plain.{among}
use Rattle.runs.specs.Honest.{Input, filled_row}
use Rattle.runs.specs.Filler.{inputs_in, row_numbers, input_fault, Placed, placed}
use Rattle.words.specs.Inputs.{value_at, op_at, guard_at, addr_at, input_at}
use Rattle.layout.specs.Laid.{laid}
use Rattle.filler.specs.Words.{copied}
use Rattle.faults.specs.Scan.{emptied, refusal, leveled, fault_at, scanned}
use Rattle.filler.specs.Write.{in_set}
use Rattle.faults.proofs.Inputs.{inputs_cons}
use Rattle.layout.proofs.Laid.{laid_put}
use Rattle.faults.proofs.Codes.{coded, input}
use Rattle.filler.proofs.Forms.{Formed}
use Rattle.faults.proofs.Scanned.{fault_by_words, scan_turn}

-- t operations in 4 words each, and room for their rows, w end rows and t range rows
pub record Given (w t : ℕ) (ops out₀ : List ℕ) : Type 0 where
  pub rows : 4 * t ≡ length ops
  pub short : t ≤ limit
  pub room : 7 * (t + w + t) ≤ length out₀

pub record Onward (all rest : List Row) (k : ℕ) (out₀ out : List ℕ) : Type 0 where
  pub whole : laid out₀ 0 all ≡ laid out (7 * k) rest
  pub counted : length all ≡ k + length rest
  pub long : length out ≡ length out₀

pub onward_start : (all : List Row) (out : List ℕ) → Onward all all 0 out out
onward_start all out = record { whole = refl; counted = omega arith; long = refl }

onward_turn : {all : List Row} {row : Row} {rest : List Row} {k : ℕ} {out₀ out : List ℕ} (ws : List ℕ) → Onward all (row ∷ rest) k out₀ out
    → ws ≡ row_numbers (row ∷ []) → 7 * k + 7 ≤ length out → Onward all rest (k + 1) out₀ (sets out (7 * k) ws)
onward_turn {all} {row} {rest} {k} {out₀} {out} ws o e room = record {
  whole = o.whole ∙ laid_put out k row rest ws e room;
  counted = let c = o.counted in omega arith;
  long = length-sets out (7 * k) ws ∙ o.long;
}

-- what is left may be said in another way
pub onward_as : {all rest : List Row} {k : ℕ} {out₀ out : List ℕ} (rest' : List Row) → rest ≡ rest' → Onward all rest k out₀ out → Onward all rest' k out₀ out
onward_as {all} {rest} {k} {out₀} {out} rest' e o = record {
  whole = o.whole ∙ ap (laid out (7 * k)) e;
  counted = o.counted ∙ ap (λ (r : List Row). k + length r) e;
  long = o.long;
}

-- after the operation there: `from` gives the rows of the operations from it on, and `later` those
-- of the operations after it
pub onward_next : {all : List Row} {k : ℕ} {out₀ out : List ℕ} (w t : ℕ) (ops : List ℕ) → Given w t ops out₀ → k < t → (from later : List Input → List Row) (row : Row) (ws : List ℕ)
    → Onward all (from (drop k (inputs_in ops))) k out₀ out
    → from (input_at ops k ∷ drop (suc k) (inputs_in ops)) ≡ row ∷ later (drop (suc k) (inputs_in ops)) → ws ≡ row_numbers (row ∷ [])
    → Onward all (later (drop (k + 1) (inputs_in ops))) (k + 1) out₀ (sets out (7 * k) ws)
onward_next {all} {k} {out₀} {out} w t ops given more from later row ws o e words =
    let long = o.long in
    onward_as (later (drop (k + 1) (inputs_in ops))) (ap (λ (j : ℕ). later (drop j (inputs_in ops))) (sym (add-one k)))
    (onward_turn ws (onward_as (row ∷ later (drop (suc k) (inputs_in ops))) (ap from (inputs_cons ops k (omega arith)) ∙ e) o) words (omega arith))

-- no operation has a fault, from a level on
pub record Clean (m : Memory) (values : List ℕ) (level : ℕ) (is : List Input) : Type 0 where
  pub modulus : ℕ
  pub place : ℕ
  pub none : (scanned modulus m (in_set values) level place is).number ≡ 0

-- a row without fault, by its words
pub record Sound (m : Memory) (values : List ℕ) (level o g a v : ℕ) : Type 0 where
  pub formed : Formed o g a v m
  pub possible : refusal m (in_set values) level o g a v ≡ 0

sound_of : (q : ℕ) (m : Memory) (values : List ℕ) (level o g a v : ℕ) → fault_at q m (in_set values) level (input o g a v) ≡ 0 → Sound m values level o g a v
sound_of q m values level o g a v e = go (input_fault q m (ops_due m Operating) (input o g a v)) refl (sym (fault_by_words q m (in_set values) level o g a v) ∙ e)
  where
    at : (b : Bool) (f : ℕ) → input_fault q m (ops_due m Operating) (input o g a v) ≡ f → eqb f 0 ≡ b → cond b (refusal m (in_set values) level o g a v) f ≡ 0 → Sound m values level o g a v
    at true f h t d = record { formed = record { modulus = q; none = h ∙ eqb-true f 0 t }; possible = d }
    at false f h t d = absurd (eqb-false f 0 t d)

    go : (f : ℕ) → input_fault q m (ops_due m Operating) (input o g a v) ≡ f → cond (eqb f 0) (refusal m (in_set values) level o g a v) f ≡ 0 → Sound m values level o g a v
    go f h d = at (eqb f 0) f h refl d

pub record CleanTurn (m : Memory) (values : List ℕ) (level : ℕ) (ops : List ℕ) (k : ℕ) : Type 0 where
  pub here : Sound m values level (op_at ops k) (guard_at ops k) (addr_at ops k) (value_at ops k)
  pub later : Clean m values (leveled m level (op_at ops k) (guard_at ops k)) (drop (k + 1) (inputs_in ops))

pub clean_turn : (m : Memory) (values : List ℕ) (level : ℕ) (ops : List ℕ) (k : ℕ) → 4 * k + 4 ≤ length ops
    → Clean m values level (drop k (inputs_in ops)) → CleanTurn m values level ops k
unfolding input_at placed
clean_turn m values level ops k h c =
    let f : ℕ = fault_at c.modulus m (in_set values) level (input_at ops k) in
    go (eqb f 0) refl (ap (λ (x : Placed). x.number) (sym (scan_turn c.modulus m (in_set values) level c.place ops k h)) ∙ c.none)
  where
    rest : Placed
    rest = scanned c.modulus m (in_set values) (leveled m level (op_at ops k) (guard_at ops k)) (suc c.place) (drop (suc k) (inputs_in ops))

    go : (b : Bool) → eqb (fault_at c.modulus m (in_set values) level (input_at ops k)) 0 ≡ b → (cond b rest (placed (fault_at c.modulus m (in_set values) level (input_at ops k)) c.place)).number ≡ 0 → CleanTurn m values level ops k
    go true t d = record {
      here = sound_of c.modulus m values level (op_at ops k) (guard_at ops k) (addr_at ops k) (value_at ops k) (eqb-true _ 0 t);
      later = record {
        modulus = c.modulus;
        place = suc c.place;
        none = ap (λ (j : ℕ). (scanned c.modulus m (in_set values) (leveled m level (op_at ops k) (guard_at ops k)) (suc c.place) (drop j (inputs_in ops))).number) (add-one k) ∙ d;
      };
    }
    go false t d = absurd (eqb-false _ 0 t d)

-- ---- what a row that is possible is

-- a test that a refusal rests on
passed : (b : Bool) (f : ℕ) → (f ≡ 0 → ⊥) → cond b 0 f ≡ 0 → b ≡ true
passed true f h e = refl
passed false f h e = absurd (h e)

pub inside_ram : (values : List ℕ) (level o g a v : ℕ) → refusal Ram (in_set values) level o g a v ≡ 0 → a < level
unfolding refusal
inside_ram values level o g a v e = ltb-true a level (passed (ltb a level) 11 (λ d. omega arith) e)

pub inside_rom : (values : List ℕ) (level o g a v : ℕ) → refusal Rom (in_set values) level o g a v ≡ 0 → a < level
unfolding refusal
inside_rom values level o g a v e = ltb-true a level (passed (ltb a level) 11 (λ d. omega arith) e)

pub inside_set : (values : List ℕ) (level o g a v : ℕ) → refusal Set (in_set values) level o g a v ≡ 0 → among v values ≡ true
unfolding refusal
inside_set values level o g a v e = passed (among v values) 13 (λ d. omega arith) e

emptied_sound : (up : Bool) (g level : ℕ) → emptied up g level ≡ 0 → up ≡ false → g ≡ 1 → 0 < level
emptied_sound true g level e u h = absurd (eqb-false 0 0 u refl)
emptied_sound false g level e u h =
    ltb-true 0 level (passed (ltb 0 level) 12 (λ d. omega arith) (ap (λ (b : Bool). cond b (cond (ltb 0 level) 0 12) 0) (sym (eq-eqb g 1 h)) ∙ e))

pub held_stack : (values : List ℕ) (level o g a v : ℕ) → refusal Stack (in_set values) level o g a v ≡ 0 → (o ≡ 4 → ⊥) → g ≡ 1 → 0 < level
unfolding refusal
held_stack values level o g a v e n h = emptied_sound (eqb o 4) g level e (ne_eqb o 4 n) h

pub held_queue : (values : List ℕ) (level o g a v : ℕ) → refusal Queue (in_set values) level o g a v ≡ 0 → (o ≡ 6 → ⊥) → g ≡ 1 → 0 < level
unfolding refusal
held_queue values level o g a v e n h = emptied_sound (eqb o 6) g level e (ne_eqb o 6 n) h

-- "Op, guard, addr and value are copied"
pub copied_words : (ops : List ℕ) (k o t v : ℕ) → op_at ops k ≤ 9 → copied ops k o t v ≡ row_numbers (filled_row (input_at ops k) o t v ∷ [])
unfolding row_numbers filled_row input_at
copied_words ops k o t v h = ap (λ (x : ℕ). x ∷ guard_at ops k ∷ addr_at ops k ∷ value_at ops k ∷ o ∷ t ∷ v ∷ []) (sym (coded (op_at ops k) h))
