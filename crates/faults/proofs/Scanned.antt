-- The scan by words, one row at a time.
--     fault_by_words    the fault of an operation by its words
--     fault_some        a fault has a number
--     fault_form, fault_possible    the fault of an operation by its form, and where it has none by that
--     leveled_rise      a level rises by one at most
--     inits_refused, inits_passed, inits_done    the scan of the init rows from a row on
--     operations_refused, operations_passed, operations_done    and of the operations
--     inits_turn, scan_turn    the scan of what is left begins with the row there
-- Assumes nothing.
use Prim.Native.Nat.{ℕ, suc, ◌+◌, ◌-◌, ◌*◌, ◌/◌, ◌≤◌}
use native.Mathlib.Omega.{arith}
use native.Mathlib.Numerals.{add-one}
use mathlib.Core.Bool.{Bool, true, false, cond}
use mathlib.Core.Path.{◌≡◌, refl, sym, ap, ◌∙◌}
use mathlib.Core.List.{List}
use lib.Dec.{eqb}
use lib.ListN.{length, drop, drop_of_length-le}
use borrow.Author.Tests.{eq-eqb, ne_eqb}
use Rattle.memory.specs.declared.faults.Fault.{Fault}
use Rattle.memory.specs.declared.faults.Fault.TheVariants.{NotNames, Unreadable, TooLarge, NotAllowed, NotDue, NotFormed, NotComplete, BelowEmpty, RangeDiffers, ShuffleDiffers, Outside, Empty, NotMember, OutputShort, ScratchShort}
use Rattle.memory.specs.Faults.{fault_number}
use Rattle.memory.specs.declared.Memory.{Memory}
use Rattle.memory.specs.declared.Memory.TheVariants.{Ram, Rom, Set, Stack, Queue}
use Rattle.memory.specs.declared.Phase.TheVariants.{Operating}
use Rattle.memory.specs.Names.{op_code, op_coded}
use Rattle.memory.specs.Rows.{ops_due}
use Rattle.runs.specs.Honest.{Input}
use Rattle.runs.specs.Filler.{inputs_in, input_fault, placed}
use Rattle.words.specs.declared.Input as words
use Rattle.words.specs.Inputs.{op_at, guard_at, words_at, input_of, input_at}
use Rattle.faults.specs.Scan.{emptied, refusal, moved, leveled, fault_at, scanned, init_fault, inits_scanned}
use Rattle.faults.proofs.Inputs.{inputs_cons, inputs_many}
use Rattle.faults.proofs.Codes.{is_coded, input}

-- neither depends on more of the op than whether it goes up
refusal_coded : (m : Memory) (member : ℕ → Bool) (level o g a v : ℕ) → refusal m member level (op_code (op_coded o)) g a v ≡ refusal m member level o g a v
unfolding refusal
refusal_coded Ram member level o g a v = refl
refusal_coded Rom member level o g a v = refl
refusal_coded Set member level o g a v = refl
refusal_coded Stack member level o g a v = ap (λ (b : Bool). emptied b g level) (is_coded o 4 (omega arith))
refusal_coded Queue member level o g a v = ap (λ (b : Bool). emptied b g level) (is_coded o 6 (omega arith))

leveled_coded : (m : Memory) (level o g : ℕ) → leveled m level (op_code (op_coded o)) g ≡ leveled m level o g
unfolding leveled
leveled_coded Ram level o g = refl
leveled_coded Rom level o g = refl
leveled_coded Set level o g = refl
leveled_coded Stack level o g = ap (λ (b : Bool). moved b g level) (is_coded o 4 (omega arith))
leveled_coded Queue level o g = ap (λ (b : Bool). moved b g level) (is_coded o 6 (omega arith))

pub fault_by_words : (q : ℕ) (m : Memory) (member : ℕ → Bool) (level o g a v : ℕ)
    → let f = input_fault q m (ops_due m Operating) (input o g a v) in fault_at q m member level (input o g a v) ≡ cond (eqb f 0) (refusal m member level o g a v) f
unfolding fault_at
fault_by_words q m member level o g a v =
    let f = input_fault q m (ops_due m Operating) (input o g a v) in
    ap (λ (r : ℕ). cond (eqb f 0) r f) (refusal_coded m member level o g a v)

-- a fault has a number
pub fault_some : (f : Fault) → fault_number f ≡ 0 → ⊥
fault_some NotNames e = omega arith
fault_some Unreadable e = omega arith
fault_some TooLarge e = omega arith
fault_some NotAllowed e = omega arith
fault_some NotDue e = omega arith
fault_some NotFormed e = omega arith
fault_some NotComplete e = omega arith
fault_some BelowEmpty e = omega arith
fault_some RangeDiffers e = omega arith
fault_some ShuffleDiffers e = omega arith
fault_some Outside e = omega arith
fault_some Empty e = omega arith
fault_some NotMember e = omega arith
fault_some OutputShort e = omega arith
fault_some ScratchShort e = omega arith

-- the fault of an operation by its form, and where it has none by that
module _ (q : ℕ) (m : Memory) (member : ℕ → Bool) (level : ℕ) (row : words.Input) (i : Input) (is : i ≡ input_of row) where
  form : ℕ
  form = input_fault q m (ops_due m Operating) i

  fault_either : fault_at q m member level (input_of row) ≡ cond (eqb form 0) (refusal m member level row.op row.guard row.addr row.value) form
  unfolding form
  fault_either =
      fault_by_words q m member level row.op row.guard row.addr row.value
      ∙ ap (λ (i : Input). let f = input_fault q m (ops_due m Operating) i in
      cond (eqb f 0) (refusal m member level row.op row.guard row.addr row.value) f) (sym is)

  pub fault_form : (f : Fault) → fault_number f ≡ input_fault q m (ops_due m Operating) i
      → fault_at q m member level (input_of row) ≡ fault_number f
  unfolding form
  fault_form f found = fault_either ∙ rw (ne_eqb form 0 (λ e. fault_some f (found ∙ e))) (sym found)

  pub fault_possible : 0 ≡ input_fault q m (ops_due m Operating) i
      → fault_at q m member level (input_of row) ≡ refusal m member level row.op row.guard row.addr row.value
  unfolding form
  fault_possible none = fault_either ∙ rw (eq-eqb form 0 (sym none)) refl

moved_rise : (up : Bool) (g level : ℕ) → moved up g level ≤ level + 1
moved_rise up g level = go (eqb g 1) up
  where
    go : (b up : Bool) → cond b (cond up (level + 1) (level - 1)) level ≤ level + 1
    go true true = omega arith
    go true false = omega arith
    go false up = omega arith

pub leveled_rise : (m : Memory) (level o g : ℕ) → leveled m level o g ≤ level + 1
unfolding leveled
leveled_rise Ram level o g = omega arith
leveled_rise Rom level o g = omega arith
leveled_rise Set level o g = omega arith
leveled_rise Stack level o g = moved_rise (eqb o 4) g level
leveled_rise Queue level o g = moved_rise (eqb o 6) g level

-- the scan of the init rows from row k on, by the fault that is found of it
module _ (q place : ℕ) (inits : List ℕ) (k : ℕ) (row : words.Input) (is : row ≡ words_at inits k) (more : 4 * k + 4 ≤ length inits) where
  pub inits_refused : (f : Fault) → fault_number f ≡ init_fault q (input_of row) → inits_scanned q place (drop k (inputs_in inits)) ≡ placed (fault_number f) place
  unfolding inits_scanned input_at
  inits_refused f found =
      let found' : init_fault q (input_at inits k) ≡ fault_number f = ap (init_fault q) (sym (ap input_of is)) ∙ sym found in
      ap (inits_scanned q place) (inputs_cons inits k more) ∙ rw found' (rw (ne_eqb (fault_number f) 0 (fault_some f)) refl)

  pub inits_passed : 0 ≡ init_fault q (input_of row) → inits_scanned q place (drop k (inputs_in inits)) ≡ inits_scanned q (place + 1) (drop (k + 1) (inputs_in inits))
  unfolding inits_scanned input_at
  inits_passed none =
      let none' : init_fault q (input_at inits k) ≡ 0 = ap (init_fault q) (sym (ap input_of is)) ∙ sym none in
      ap (inits_scanned q place) (inputs_cons inits k more) ∙ rw none' (simp add-one)

pub inits_done : (q place : ℕ) (inits : List ℕ) (k : ℕ) → length inits / 4 ≤ k → inits_scanned q place (drop k (inputs_in inits)) ≡ placed 0 0
unfolding inits_scanned
inits_done q place inits k past = ap (inits_scanned q place) (drop_of_length-le (inputs_in inits) {i = k} (omega (arith, inputs_many inits)))

-- the scan of the operations from operation k on, by the fault that is found of it
module _ (q : ℕ) (m : Memory) (member : ℕ → Bool) (level place : ℕ) (ops : List ℕ) (k : ℕ) (row : words.Input) (is : row ≡ words_at ops k) (more : 4 * k + 4 ≤ length ops) where
  pub operations_refused : (f : Fault) → fault_number f ≡ fault_at q m member level (input_of row)
      → scanned q m member level place (drop k (inputs_in ops)) ≡ placed (fault_number f) place
  unfolding scanned input_at
  operations_refused f found =
      let found' : fault_at q m member level (input_at ops k) ≡ fault_number f = ap (fault_at q m member level) (sym (ap input_of is)) ∙ sym found in
      ap (scanned q m member level place) (inputs_cons ops k more) ∙ rw found' (rw (ne_eqb (fault_number f) 0 (fault_some f)) refl)

  pub operations_passed : (next level' : ℕ) → 0 ≡ fault_at q m member level (input_of row) → level' ≡ leveled m level row.op row.guard → next ≡ place + 1
      → scanned q m member level place (drop k (inputs_in ops)) ≡ scanned q m member level' next (drop (k + 1) (inputs_in ops))
  unfolding scanned input_at
  operations_passed next level' none after later =
      let none' : fault_at q m member level (input_at ops k) ≡ 0 = ap (fault_at q m member level) (sym (ap input_of is)) ∙ sym none in
      let after' : leveled m level (op_code (op_coded (op_at ops k))) (guard_at ops k) ≡ level' =
      leveled_coded m level (op_at ops k) (guard_at ops k) ∙ ap (λ (r : words.Input). leveled m level r.op r.guard) (sym is) ∙ sym after in
      ap (scanned q m member level place) (inputs_cons ops k more) ∙ rw (none', after', later) (simp add-one)

pub operations_done : (q : ℕ) (m : Memory) (member : ℕ → Bool) (level place : ℕ) (ops : List ℕ) (k : ℕ) → length ops / 4 ≤ k
    → scanned q m member level place (drop k (inputs_in ops)) ≡ placed 0 0
unfolding scanned
operations_done q m member level place ops k past = ap (scanned q m member level place) (drop_of_length-le (inputs_in ops) {i = k} (omega (arith, inputs_many ops)))

pub inits_turn : (q place : ℕ) (inits : List ℕ) (k : ℕ) → 4 * k + 4 ≤ length inits
    → inits_scanned q place (drop k (inputs_in inits))
    ≡ cond (eqb (init_fault q (input_at inits k)) 0) (inits_scanned q (suc place) (drop (suc k) (inputs_in inits))) (placed (init_fault q (input_at inits k)) place)
unfolding inits_scanned
inits_turn q place inits k h = ap (inits_scanned q place) (inputs_cons inits k h)

pub scan_turn : (q : ℕ) (m : Memory) (member : ℕ → Bool) (level place : ℕ) (ops : List ℕ) (k : ℕ) → 4 * k + 4 ≤ length ops
    → scanned q m member level place (drop k (inputs_in ops))
    ≡ cond (eqb (fault_at q m member level (input_at ops k)) 0)
    (scanned q m member (leveled m level (op_at ops k) (guard_at ops k)) (suc place) (drop (suc k) (inputs_in ops)))
    (placed (fault_at q m member level (input_at ops k)) place)
unfolding scanned input_at
scan_turn q m member level place ops k h =
    ap (scanned q m member level place) (inputs_cons ops k h)
    ∙ ap (λ (l : ℕ). cond (eqb (fault_at q m member level (input_at ops k)) 0) (scanned q m member l (suc place) (drop (suc k) (inputs_in ops))) (placed (fault_at q m member level (input_at ops k)) place))
    (leveled_coded m level (op_at ops k) (guard_at ops k))
