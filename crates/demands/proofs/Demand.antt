-- Demand 3 of document 01: for any prime that has room for the size and the count, and for each
-- modulus of a file. What no challenge accepts, and the bound on the challenges that accept a wrong
-- trace, are shown here; that a right trace with the filler's advice is accepted is honest_clause.
-- Assumes nothing.
use Prim.Native.Nat.{ℕ, ◌+◌, ◌*◌, ◌^◌, ◌≤◌, ◌<◌}
use mathlib.Core.Path.{◌≡◌, refl, sym, ◌∙◌}
use mathlib.Core.Logic.{inl, inr}
use mathlib.Core.Bool.{Bool, true, false, ◌&&◌, cond, true≢false}
use mathlib.Core.List.{List, [], ◌∷◌}
use native.Mathlib.Decide.{ℕ_discrete}
use native.Mathlib.Omega.{arith}
use lib.Dec.{leb, ltb}
use borrow.Author.Tests.{eqb-true, leb-true}
use Rattle.algebra.specs.Prime.{Prime}
use Rattle.algebra.proofs.Mersenne.{prime_p}
use Rattle.algebra.proofs.Mersenne61.{prime_61}
use Rattle.field.specs.Field.{p}
use Rattle.field.specs.Wide.{p61}
use Rattle.field.specs.declared.moduli.Modulus.{Modulus}
use Rattle.field.specs.declared.moduli.Modulus.TheVariants.{M31, M61, Small}
use Rattle.field.specs.Moduli.{modulus_of, file_modulus}
use Rattle.memory.specs.declared.Memory.{Memory}
use Rattle.memory.specs.declared.Memory.TheVariants.{Ram, Rom, Set, Stack, Queue}
use Rattle.memory.specs.Faults.{Parsed}
use Rattle.memory.specs.declared.Challenge.{Challenge}
use Rattle.memory.specs.Bytes.{all_below}
use Rattle.memory.specs.Rows.{limit, sized, allowed}
use Rattle.memory.specs.File.{first_fault, rows_of, values_fault}
use Rattle.runs.specs.Plain.{right, trace_of}
use Rattle.memory.specs.Bound.{accepts, challenges, malformed, degree}
use Rattle.memory.specs.Statements.{Holds}
use Rattle.demands.specs.Statements.{FileModuli, ModuliPrime, Demand, DemandAt, DemandThree}
use Rattle.demands.proofs.Balance.{challenges_none}
use Rattle.memory.proofs.ReadRows.{both_pass, chosen_zero}
use Rattle.memory.proofs.Phases.{no_fault_below}
use Rattle.demands.proofs.WellFormed.{no_fault_well_formed}
use Rattle.demands.proofs.WrongTrace.{right_or_rare}
use Rattle.memory.proofs.Fold.{accepts_exactly_when}
use Rattle.demands.proofs.RightTrace.{well_sized}
use Rattle.demands.proofs.HonestBalances.{honest_clause}

-- the first two of a list of tests
both_tests : (a b c : Bool) → (a && (b && c)) ≡ true → (a && (b && true)) ≡ true
both_tests true true c e = refl
both_tests true false c e = e
both_tests false b c e = e

-- a value line without fault: size and count are below q and allowed
values_allowed :
    (q : ℕ) (m : Memory) (n t : ℕ) (ch : Challenge) → values_fault q m n t ch ≡ 0
    → (all_below q (n ∷ t ∷ []) && allowed m n t) ≡ true
unfolding values_fault all_below
values_allowed q m n t ch e =
    let below = chosen_zero (all_below q (n ∷ t ∷ ch.r ∷ ch.a ∷ ch.b ∷ ch.c ∷ [])) (cond (allowed m n t) 0 4) 3 (omega arith) e in
    let fits = chosen_zero (allowed m n t) 0 4 (omega arith) below.1 in
    rw (both_tests (ltb n q) (ltb t q) _ below.0, fits.0) refl

-- the equations hold of no malformed rows
holds_not_malformed :
    (q : ℕ) (m : Memory) (n t : ℕ) (ch : Challenge) (xs : List Parsed) → Holds q m n t ch xs → malformed q m n t xs ≡ false
unfolding malformed
holds_not_malformed q m n t ch xs holds = rw (values_allowed q m n t ch holds.values, holds.rows) refl

-- a size that is allowed is at most the limit
pub sized_limit : (m : Memory) (n : ℕ) → sized m n ≡ true → n ≤ limit
unfolding sized limit
sized_limit Ram n e = leb-true n limit e
sized_limit Rom n e = leb-true n limit e
sized_limit Set n e = leb-true n limit e
sized_limit Stack n e = omega (arith, eqb-true n 0 e)
sized_limit Queue n e = omega (arith, eqb-true n 0 e)

-- what is allowed is at most the limit
pub allowed_sized : (m : Memory) (n t : ℕ) → allowed m n t ≡ true → (sized m n ≡ true) × (t ≤ limit)
unfolding allowed
allowed_sized m n t e = let parts = both_pass (sized m n) (leb t limit) e in (parts.0, leb-true t limit parts.1)

-- twice a bound
doubled : (x m k : ℕ) → x ≤ m * k → x ≤ 2 * m * k
doubled x m k h = omega arith

-- a statement that a test decides
by_test : {A : Type 0} (b : Bool) → (b ≡ true → A) → (b ≡ false → A) → A
by_test true passes fails = passes refl
by_test false passes fails = fails refl

-- incomplete or malformed rows are accepted by no challenge
pub malformed_not_accepted :
    (q : ℕ) (m : Memory) (n t : ℕ) (xs : List Parsed) → 2 ≤ q → malformed q m n t xs ≡ true
    → (ch : Challenge) → accepts q m n t xs ch ≡ false
malformed_not_accepted q m n t xs two bad ch =
    by_test (accepts q m n t xs ch)
    (λ accepted.
    let holds = (accepts_exactly_when q m n t ch xs two).0 accepted in
    absurd (true≢false (sym bad ∙ holds_not_malformed q m n t ch xs holds)))
    (λ refused. refused)

-- nor are rows that meet 8
fault_not_accepted :
    (q : ℕ) (m : Memory) (n t : ℕ) (xs : List Parsed) → 2 ≤ q → (first_fault q m n t [] xs).number ≡ 8
    → (ch : Challenge) → accepts q m n t xs ch ≡ false
fault_not_accepted q m n t xs two fault ch =
    by_test (accepts q m n t xs ch)
    (λ accepted. let holds = (accepts_exactly_when q m n t ch xs two).0 accepted in absurd (omega (arith, fault, holds.rows)))
    (λ refused. refused)

-- a wrong trace is accepted by at most m · q ^ 3 challenges, whatever the advice
pub wrong_trace_bound :
    (q : ℕ) (m : Memory) (n t : ℕ) (xs : List Parsed) → Prime q → 2 * t ≤ q → t + 1 < q → n ≤ q
    → malformed q m n t xs ≡ false → right (trace_of m n t (rows_of xs)) ≡ false
    → challenges q (accepts q m n t xs) ≤ degree m n t (rows_of xs) * q ^ 3
wrong_trace_bound q m n t xs prime wide room small good wrong = go (ℕ_discrete (first_fault q m n t [] xs).number 0)
  where
    holds : (ch : Challenge) → accepts q m n t xs ch ≡ true → Holds q m n t ch xs
    holds ch = (accepts_exactly_when q m n t ch xs prime.two).0

    go :
        Dec ((first_fault q m n t [] xs).number ≡ 0)
        → challenges q (accepts q m n t xs) ≤ degree m n t (rows_of xs) * q ^ 3
    go (no fault) = omega (arith, challenges_none q (accepts q m n t xs) (λ ch accepted. fault (holds ch accepted).rows))
    go (yes e) =
        elim
        (right_or_rare q m n t (rows_of xs) (accepts q m n t xs) prime wide room small
        (allowed_sized m n t (well_sized q m n t xs good).1).0
        (no_fault_below q m n t [] xs e)
        (no_fault_well_formed q m n t xs e)
        (λ ch accepted. ((holds ch accepted).range, (holds ch accepted).memory))) [
          | inl fits ↦ absurd (true≢false (sym fits ∙ wrong))
          | inr few ↦ few
        ]

-- Demand 3 for any prime with room
pub demand_at : DemandAt
demand_at q m n t xs prime wide room small = record {
  incomplete = malformed_not_accepted q m n t xs prime.two;
  depth = fault_not_accepted q m n t xs prime.two;
  wrong =
      λ good wrong. doubled (challenges q (accepts q m n t xs)) (degree m n t (rows_of xs)) (q ^ 3)
      (wrong_trace_bound q m n t xs prime wide room small good wrong);
  sharp = wrong_trace_bound q m n t xs prime wide room small;
  honest = honest_clause q m n t xs prime room;
}

-- rows with a size or count that is not allowed are malformed, so only the first clause says something of them
demand_of_malformed :
    (q : ℕ) (m : Memory) (n t : ℕ) (xs : List Parsed) → 2 ≤ q → allowed m n t ≡ false → Demand q m n t xs
demand_of_malformed q m n t xs two over = record {
  incomplete = malformed_not_accepted q m n t xs two;
  depth = fault_not_accepted q m n t xs two;
  wrong = λ good. absurd (impossible good);
  sharp = λ good. absurd (impossible good);
  honest = λ good. absurd (impossible good);
}
  where
    impossible : malformed q m n t xs ≡ false → ⊥
    impossible good = true≢false (sym (well_sized q m n t xs good).1 ∙ over)

-- Demand 3 for any prime that has room for all sizes and counts
demand_roomy : (q : ℕ) (m : Memory) (n t : ℕ) (xs : List Parsed) → Prime q → 2 * limit ≤ q → Demand q m n t xs
unfolding limit
demand_roomy q m n t xs prime wide =
    by_test (allowed m n t)
    (λ fine.
    let count : t ≤ limit = (allowed_sized m n t fine).1 in
    let size : n ≤ limit = sized_limit m n (allowed_sized m n t fine).0 in
    demand_at q m n t xs prime (omega arith) (omega arith) (omega arith))
    (λ over. demand_of_malformed q m n t xs prime.two over)

-- each modulus of a file is a prime with that room
pub file_prime : (k : Modulus) → file_modulus k ≡ true → (Prime (modulus_of k)) × (2 * limit ≤ modulus_of k)
unfolding p p61 limit modulus_of file_modulus
file_prime M31 named = (prime_p, omega arith)
file_prime M61 named = (prime_61, omega arith)
file_prime (Small k) named = absurd (true≢false (sym named))

pub file_moduli : FileModuli
unfolding p p61 modulus_of file_modulus
file_moduli = ((refl, refl), (refl, refl), λ k. (refl, λ two. omega arith))

pub moduli_prime : ModuliPrime
moduli_prime k named = (file_prime k named).0

-- Demand 3, for each modulus of a file
pub demand_three : DemandThree
demand_three k m n t xs named =
    let prime = file_prime k named in
    demand_roomy (modulus_of k) m n t xs prime.0 prime.1
