-- The products of document 01 are those of the algebra, over triples as vectors of length 3 and a
-- challenge as the vector r ∷ a ∷ b ∷ c. So its bounds hold of the challenges at which a shuffle
-- balances, or at which two hashes are equal.
-- Assumes nothing.
use Prim.Native.Nat.{ℕ, ◌+◌, ◌*◌, ◌^◌, ◌≤◌, ◌<◌}
use mathlib.Core.Path.{◌≡◌, refl, sym, ◌∙◌, ap, ap₂, fun_ext}
use mathlib.Core.Logic.{◌⊎◌, inl, inr, ⊎_map, ◌≢◌}
use mathlib.Core.Bool.{Bool, true, false, true≢false}
use mathlib.Core.List.{List, [], ◌∷◌, map, List-discrete}
use native.Mathlib.Nat.{le_trans, le_of_eq, mul_comm, mul-le-mul_right}
use native.Mathlib.Omega.{arith}
use lib.Dec.{eqb}
use lib.ListN.{length, get_or, length-map}
use borrow.Author.Tests.{eq-eqb}
use Rattle.algebra.specs.Sum.{sum, bit, count, sums, counts}
use Rattle.algebra.specs.Modulo.{minus, times}
use Rattle.algebra.specs.Prime.{Prime}
use Rattle.algebra.specs.Vector.{inner, Below, Wide}
use Rattle.algebra.specs.Multiset.{EquallyOften, total}
use Rattle.algebra.specs.Hash.{hash}
use Rattle.algebra.specs.Shuffle as Algebra
use Rattle.algebra.specs.Shuffle.{balances}
use Rattle.algebra.proofs.Sum.{sum_monotone, sum_scale, sums_constant}
use Rattle.algebra.proofs.Factor.{remainders_below}
use Rattle.algebra.proofs.Shuffle.{shuffle_bound}
use Rattle.algebra.proofs.Honest.{equal_products}
use Rattle.algebra.proofs.Hash.{hash_bound}
use Rattle.field.specs.Field.{challenges_of}
use Rattle.memory.specs.declared.Challenge.{Challenge}
use Rattle.memory.specs.Content.{Content, content_of, number_of}
use Rattle.memory.specs.Equations.{Triple, triple, factor, product, balanced}
use Rattle.memory.specs.Bound.{challenge, challenges}
use Rattle.memory.proofs.Content.{ContentBelow, content_discrete}
use Rattle.demands.specs.Statements.{ChallengesCounted}

-- a triple as a vector
unfoldable pub entries : Triple → List ℕ
entries t = t.x ∷ number_of t.y ∷ t.z ∷ []

-- the triple of a vector
entries_back : List ℕ → Triple
entries_back v = triple (get_or v 0 0) (content_of (get_or v 1 0)) (get_or v 2 0)

-- a weight of vectors as one of triples, and the other way
total_of_entries : (weight : List ℕ → ℕ) (ts : List Triple) → total weight (map entries ts) ≡ total (λ t. weight (entries t)) ts
unfolding total
total_of_entries weight [] = refl
total_of_entries weight (t ∷ ts) = ap (λ (n : ℕ). weight (entries t) + n) (total_of_entries weight ts)

-- every entry is below q, and every content nothing but its number
abbrev pub TriplesBelow : ℕ → List Triple → Type 0
TriplesBelow q [] = Unit {0}
TriplesBelow q (t ∷ ts) = (t.x < q) × ContentBelow q t.y × (t.z < q) × TriplesBelow q ts

total_of_triples :
    (q : ℕ) (weight : Triple → ℕ) (ts : List Triple) → TriplesBelow q ts → total (λ v. weight (entries_back v)) (map entries ts) ≡ total weight ts
unfolding total entries entries_back triple
total_of_triples q weight [] h = refl
total_of_triples q weight (t ∷ ts) h =
    ap₂ (λ (a b : ℕ). a + b) (ap (λ (y : Content). weight (triple t.x y t.z)) h.1.1) (total_of_triples q weight ts h.3)

-- lists hold the same triples equally often just where they hold the same vectors equally often
often_entries : (ts us : List Triple) → EquallyOften ts us → EquallyOften (map entries ts) (map entries us)
often_entries ts us often weight =
    total_of_entries weight ts ∙ (often (λ t. weight (entries t)) ∙ sym (total_of_entries weight us))

often_triples :
    (q : ℕ) (ts us : List Triple) → TriplesBelow q ts → TriplesBelow q us → EquallyOften (map entries ts) (map entries us) → EquallyOften ts us
often_triples q ts us bt bu often weight =
    sym (total_of_triples q weight ts bt) ∙ (often (λ v. weight (entries_back v)) ∙ total_of_triples q weight us bu)

-- a challenge as a vector
unfoldable pub elements : Challenge → List ℕ
elements ch = ch.r ∷ ch.a ∷ ch.b ∷ ch.c ∷ []

-- the factor and the product of the algebra
factor_of_entries : (q : ℕ) (ch : Challenge) (t : Triple) → factor q ch t ≡ Algebra.factor q (elements ch) (entries t)
unfolding factor entries elements Algebra.factor inner
factor_of_entries q ch t = ap (minus q ch.r) (omega arith)

product_of_entries : (q : ℕ) (ch : Challenge) (ts : List Triple) → product q ch ts ≡ Algebra.product q (elements ch) (map entries ts)
unfolding product Algebra.product
product_of_entries q ch [] = refl
product_of_entries q ch (t ∷ ts) = ap₂ (times q) (factor_of_entries q ch t) (product_of_entries q ch ts)

balanced_of_entries : (q : ℕ) (ch : Challenge) (ts us : List Triple) → balanced q ch ts us ≡ balances q (elements ch) (map entries ts) (map entries us)
unfolding balanced balances
balanced_of_entries q ch ts us = ap₂ eqb (product_of_entries q ch ts) (product_of_entries q ch us)

-- lists that hold the same triples equally often balance at every challenge
pub often_balances : (q : ℕ) (ch : Challenge) (ts us : List Triple) → EquallyOften ts us → balanced q ch ts us ≡ true
unfolding balanced
often_balances q ch ts us often =
    eq-eqb _ _
    (product_of_entries q ch ts
    ∙ (equal_products q (map entries ts) (map entries us) (elements ch) (often_entries ts us often) ∙ sym (product_of_entries q ch us)))

-- a test that passes wherever another does is passed by no fewer challenges
bit_implied : (x y : Bool) → (x ≡ true → y ≡ true) → bit x ≤ bit y
unfolding bit
bit_implied true true h = omega arith
bit_implied true false h = absurd (true≢false (sym (h refl)))
bit_implied false true h = omega arith
bit_implied false false h = omega arith

pub challenges_monotone :
    (q : ℕ) (f g : Challenge → Bool) → ((ch : Challenge) → f ch ≡ true → g ch ≡ true) → challenges q f ≤ challenges q g
unfolding challenges
challenges_monotone q f g h =
    sum_monotone q _ _ (λ r lr. sum_monotone q _ _ (λ a la. sum_monotone q _ _ (λ b lb. sum_monotone q _ _ (λ c lc.
    bit_implied (f (challenge r a b c)) (g (challenge r a b c)) (h (challenge r a b c))))))

-- all challenges are counted
pub challenges_counted : ChallengesCounted
unfolding challenges challenges_of counts sums
challenges_counted q = refl

-- a test that never passes is passed by no challenge
pub challenges_none : (q : ℕ) (f : Challenge → Bool) → ((ch : Challenge) → f ch ≡ true → ⊥) → challenges q f ≡ 0
unfolding challenges sums bit
challenges_none q f never =
    omega (arith, challenges_monotone q f (λ ch. false) (λ ch e. absurd (never ch e)), sums_constant q 4 0)

-- the challenges at which a shuffle balances, counted as vectors
balanced_challenges :
    (q : ℕ) (ts us : List Triple)
    → challenges q (λ ch. balanced q ch ts us) ≡ counts q 4 (λ w. balances q w (map entries ts) (map entries us))
unfolding challenges challenge counts sums elements
balanced_challenges q ts us =
    ap (sum q) (fun_ext λ r. ap (sum q) (fun_ext λ a. ap (sum q) (fun_ext λ b. ap (sum q) (fun_ext λ c.
    ap bit (balanced_of_entries q (challenge r a b c) ts us)))))

-- their vectors have length 3 and entries below q
wide_entries : (q : ℕ) (ts : List Triple) → TriplesBelow q ts → Wide q 3 (map entries ts)
unfolding entries
wide_entries q [] h = tt
wide_entries q (t ∷ ts) h = (refl, (h.0, (h.1.0, (h.2, tt))), wide_entries q ts h.3)

-- two lists of at most m triples: they hold the same triples equally often, or they balance at no more than m · q ^ 3 challenges
pub balanced_bound :
    (q m : ℕ) (ts us : List Triple)
    → Prime q → length ts ≤ m → length us ≤ m → TriplesBelow q ts → TriplesBelow q us
    → EquallyOften ts us ⊎ (challenges q (λ ch. balanced q ch ts us) ≤ m * q ^ 3)
balanced_bound q m ts us prime lt lu bt bu =
    ⊎_map (often_triples q ts us bt bu) (λ few. le_trans (le_of_eq (balanced_challenges q ts us)) few)
    (shuffle_bound q 3 m (map entries ts) (map entries us) prime
    (le_trans (le_of_eq (length-map ts entries)) lt) (le_trans (le_of_eq (length-map us entries)) lu)
    (wide_entries q ts bt) (wide_entries q us bu))

-- a test of r alone
challenges_of_first : (q : ℕ) (f : ℕ → Bool) → challenges q (λ ch. f ch.r) ≡ q ^ 3 * count q f
unfolding challenges challenge count sums
challenges_of_first q f =
    ap (sum q) (fun_ext λ r. sums_constant q 3 (bit (f r)) ∙ mul_comm (bit (f r)) (q ^ 3))
    ∙ sum_scale q (q ^ 3) (λ r. bit (f r))

-- lists of numbers below q that are not equal: the algebra's bound
different_hashes_bound :
    (q e : ℕ) (xs ys : List ℕ)
    → Prime q → length xs ≡ e → length ys ≡ e → Below q xs → Below q ys → xs ≢ ys
    → challenges q (λ ch. eqb (hash q ch.r xs) (hash q ch.r ys)) ≤ e * q ^ 3
different_hashes_bound q e [] [] prime lx ly bx by differ = absurd (differ refl)
different_hashes_bound q e [] (y ∷ ys) prime lx ly bx by differ = absurd (omega arith)
different_hashes_bound q e (x ∷ xs) [] prime lx ly bx by differ = absurd (omega arith)
different_hashes_bound q e (x ∷ xs) (y ∷ ys) prime lx ly bx by differ =
    let test : ℕ → Bool = λ r. eqb (hash q r (x ∷ xs)) (hash q r (y ∷ ys)) in
    let few : count q test ≤ length xs =
    hash_bound q (length xs) (x ∷ xs) (y ∷ ys) prime refl (omega arith)
    (λ same. differ (sym (remainders_below q (x ∷ xs) bx) ∙ (same ∙ remainders_below q (y ∷ ys) by)))
    in
    le_trans (le_of_eq (challenges_of_first q test ∙ mul_comm (q ^ 3) (count q test)))
    (mul-le-mul_right (q ^ 3) (omega arith))

-- contents that are numbers below q
abbrev pub ContentsBelow : ℕ → List Content → Type 0
ContentsBelow q [] = Unit {0}
ContentsBelow q (x ∷ xs) = ContentBelow q x × ContentsBelow q xs

-- the numbers that are hashed of them
numbers_below : (q : ℕ) (xs : List Content) → ContentsBelow q xs → Below q xs
numbers_below q [] h = tt
numbers_below q (x ∷ xs) h = (h.0.0, numbers_below q xs h.1)

-- two lists of e contents are equal, or their hashes are equal at no more than e · q ^ 3 challenges
pub hashes_bound :
    (q e : ℕ) (xs ys : List Content)
    → Prime q → length xs ≡ e → length ys ≡ e → ContentsBelow q xs → ContentsBelow q ys
    → (xs ≡ ys) ⊎ (challenges q (λ ch. eqb (hash q ch.r xs) (hash q ch.r ys)) ≤ e * q ^ 3)
hashes_bound q e xs ys prime lx ly bx by =
    elim (List-discrete content_discrete xs ys) [
      | yes same ↦ inl same
      | no differ ↦ inr (different_hashes_bound q e xs ys prime lx ly (numbers_below q xs bx) (numbers_below q ys by) differ)
    ]
