-- The init rows, copied one at a time.
--     CleanInits, clean_later    no init row left has a fault; then those after the next have none
--     init_laid, inits_done    the rows left begin with the row there, until none is left
-- Assumes nothing.
use Prim.Native.Nat.{ℕ, suc, ◌+◌, ◌*◌, ◌≤◌}
use native.Mathlib.Omega.{arith}
use native.Mathlib.Numerals.{add-one}
use mathlib.Core.Bool.{Bool, true, false, cond}
use mathlib.Core.Path.{◌≡◌, refl, sym, ap, ◌∙◌}
use mathlib.Core.List.{List, [], ◌∷◌, map}
use lib.Dec.{eqb}
use lib.ListN.{length, drop, drop_of_length-le}
use lib.Seq.{sets}
use borrow.Author.Tests.{eqb-true, eqb-false}
use Rattle.runs.specs.Honest.{Input, bare}
use Rattle.runs.specs.Filler.{inputs_in, Placed, placed}
use Rattle.words.specs.declared.Input as words
use Rattle.words.specs.Inputs.{value_at, op_at, guard_at, addr_at, words_at, input_at}
use Rattle.layout.specs.Laid.{laid}
use Rattle.filler.specs.Words.{copied}
use Rattle.faults.specs.Scan.{init_fault, inits_scanned}
use Rattle.faults.proofs.Inputs.{inputs_cons, inputs_many}
use Rattle.layout.proofs.Laid.{laid_none, laid_put}
use Rattle.filler.proofs.Forms.{form_init}
use Rattle.faults.proofs.Scanned.{inits_turn}
use Rattle.filler.proofs.Onward.{copied_words}

pub record CleanInits (is : List Input) : Type 0 where
  pub modulus : ℕ
  pub place : ℕ
  pub none : (inits_scanned modulus place is).number ≡ 0

-- the row there, and those after it
module _ (inits : List ℕ) (k : ℕ) (more : 4 * k + 4 ≤ length inits) (clean : CleanInits (drop k (inputs_in inits))) where
  both : (op_at inits k ≡ 0) × CleanInits (drop (k + 1) (inputs_in inits))
  unfolding input_at placed
  both =
      go (eqb (init_fault clean.modulus (input_at inits k)) 0) refl (ap (λ (f : Placed). f.number) (sym (inits_turn clean.modulus clean.place inits k more)) ∙ clean.none)
    where
      go : (b : Bool) → eqb (init_fault clean.modulus (input_at inits k)) 0 ≡ b
          → (cond b (inits_scanned clean.modulus (suc clean.place) (drop (suc k) (inputs_in inits))) (placed (init_fault clean.modulus (input_at inits k)) clean.place)).number ≡ 0
          → (op_at inits k ≡ 0) × CleanInits (drop (k + 1) (inputs_in inits))
      go true e d = (
        form_init (op_at inits k) (guard_at inits k) (addr_at inits k) (value_at inits k) clean.modulus (eqb-true _ 0 e),
        record { modulus = clean.modulus; place = suc clean.place; none = ap (λ (j : ℕ). (inits_scanned clean.modulus (suc clean.place) (drop j (inputs_in inits))).number) (add-one k) ∙ d },
      )
      go false e d = absurd (eqb-false _ 0 e d)

  pub clean_later : CleanInits (drop (k + 1) (inputs_in inits))
  clean_later = both.1

  -- one row more is written
  pub init_laid : (row : words.Input) (out out' : List ℕ) → row ≡ words_at inits k → 7 * k + 7 ≤ length out
      → out' ≡ sets out (7 * k) (row.op ∷ row.guard ∷ row.addr ∷ row.value ∷ 0 ∷ 0 ∷ 0 ∷ [])
      → laid out (7 * k) (map bare (drop k (inputs_in inits))) ≡ laid out' (7 * (k + 1)) (map bare (drop (k + 1) (inputs_in inits)))
  unfolding bare
  init_laid row out out' is room put =
      let op = both.0 in
      let written : out' ≡ sets out (7 * k) (copied inits k 0 0 0) = put ∙ ap (λ (r : words.Input). sets out (7 * k) (r.op ∷ r.guard ∷ r.addr ∷ r.value ∷ 0 ∷ 0 ∷ 0 ∷ [])) is in
      ap (λ (is : List Input). laid out (7 * k) (map bare is)) (inputs_cons inits k more)
      ∙ laid_put out k (bare (input_at inits k)) (map bare (drop (suc k) (inputs_in inits))) (copied inits k 0 0 0) (copied_words inits k 0 0 0 (omega arith)) room
      ∙ (λ i. laid (sym written i) (7 * (k + 1)) (map bare (drop (sym (add-one k) i) (inputs_in inits))))

pub inits_done : (inits out : List ℕ) (k : ℕ) → length inits ≤ 4 * k → laid out (7 * k) (map bare (drop k (inputs_in inits))) ≡ out
inits_done inits out k h =
    ap (λ (is : List Input). laid out (7 * k) (map bare is)) (drop_of_length-le (inputs_in inits) {i = k} (omega (arith, inputs_many inits))) ∙ laid_none out (7 * k)
