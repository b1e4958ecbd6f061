-- What is shown of the definitions, each statement for any prime q. proofs/ has a proof of each, under the name that the comment gives.
-- Assumes nothing.
-- must-fail/shuffle_bound_one_less.edit, shuffle_bound_power.edit and words_hash_power.edit use
-- `◌-◌`
use Rattle.std.specs.Prelude.{ℕ, suc, ◌+◌, ◌-◌, ◌*◌, ◌^◌, ◌%◌, ◌≤◌, ◌<◌, ◌≡◌, ◌⊎◌, ◌≢◌, Bool, false, ◌||◌, List, map, eqb, T, length}
use Rattle.algebra.specs.Sum.{bit, sum, count, counts, sums}
use Rattle.algebra.specs.Prime.{Prime, certified}
use Rattle.algebra.specs.Vector.{inner, along, remainders, Below, AllZero, Wide}
use Rattle.algebra.specs.Polynomial.{root}
use Rattle.algebra.specs.Multiset.{EquallyOften}
use Rattle.algebra.specs.Shuffle.{product, balances}
use Rattle.algebra.specs.Hash.{hash}

-- A number with a certificate is prime. One statement for every number. (Certificate: certified_prime)
abbrev pub CertifiedPrime : Type 0
CertifiedPrime = (n base : ℕ) (factors : List ℕ) → T (certified n base factors) → Prime n

-- A product that is 0 modulo a prime has a factor that is 0 modulo it. (Euclid: zero_product)
abbrev pub ZeroProduct : Type 0
ZeroProduct = (q x y : ℕ) → Prime q → (x * y) % q ≡ 0 → (x % q ≡ 0) ⊎ (y % q ≡ 0)

-- Sums over all vectors: a larger term gives a larger sum, (Sum: sums_monotone)
abbrev pub SumsMonotone : Type 0
SumsMonotone = (q d : ℕ) (f g : List ℕ → ℕ) → ((w : List ℕ) → f w ≤ g w) → sums q d f ≤ sums q d g

-- the sum of sums is the sum, (Sum: sums_additive)
abbrev pub SumsAdditive : Type 0
SumsAdditive = (q d : ℕ) (f g : List ℕ → ℕ) → sums q d (λ w. f w + g w) ≡ sums q d f + sums q d g

-- a constant is taken q ^ d times, (Sum: sums_constant)
abbrev pub SumsConstant : Type 0
SumsConstant = (q d c : ℕ) → sums q d (λ w. c) ≡ c * q ^ d

-- the order of two sums does not matter, (Sum: sums_swap)
abbrev pub SumsSwap : Type 0
SumsSwap =
    (q d e : ℕ) (f : List ℕ → List ℕ → ℕ)
    → sums q d (λ w. sums q e (λ v. f w v)) ≡ sums q e (λ v. sums q d (λ w. f w v))

-- and a term that sees only remainders has the same sum over the vectors shifted by t times v. (Sum: sums_shift)
abbrev pub SumsShift : Type 0
SumsShift =
    (q t : ℕ) (v : List ℕ) (f : List ℕ → ℕ)
    → ((x y : List ℕ) → remainders q x ≡ remainders q y → f x ≡ f y)
    → sums q (length v) (λ w. f (along w t v)) ≡ sums q (length v) f

-- The vectors that pass one of two tests are at most those that pass the first and those that pass the second. (Sum: union_bound)
abbrev pub UnionBound : Type 0
UnionBound = (q d : ℕ) (P R : List ℕ → Bool) → counts q d (λ w. P w || R w) ≤ counts q d P + counts q d R

-- Where fewer than all vectors pass a test, there is one that fails it. (Sum: witness)
abbrev pub Witness : Type 0
Witness =
    (q d : ℕ) (P : List ℕ → Bool) → counts q d P < q ^ d
    → (w : List ℕ) × (length w ≡ d) × Below q w × (P w ≡ false)

-- At most k + 1 coefficients, not all 0 modulo q, have at most k roots below q. (Roots: roots_bound)
abbrev pub RootsBound : Type 0
RootsBound = (q k : ℕ) (cs : List ℕ) → Prime q → length cs ≤ suc k → ¬ AllZero q cs → count q (root q cs) ≤ k

-- For d not 0 modulo q, of length k + 1, at most q ^ k of the q ^ (k + 1) vectors w have ⟨w, d⟩ + e ≡ 0. (Plane: plane_bound)
abbrev pub PlaneBound : Type 0
PlaneBound =
    (q k e : ℕ) (d : List ℕ) → Prime q → length d ≡ suc k → ¬ AllZero q d
    → counts q (suc k) (λ w. eqb ((inner w d + e) % q) 0) ≤ q ^ k

-- Two lists of at most m vectors of length k with entries below q: they hold the same vectors
-- equally often, or their products agree at no more than m · q ^ k of the q ^ (k + 1) challenges.
-- (Shuffle: shuffle_bound)
abbrev pub ShuffleBound : Type 0
ShuffleBound =
    (q k m : ℕ) (xs ys : List (List ℕ))
    → Prime q → length xs ≤ m → length ys ≤ m → Wide q k xs → Wide q k ys
    → EquallyOften xs ys ⊎ (counts q (suc k) (λ c. balances q c xs ys) ≤ m * q ^ k)

-- The honest side: the same vectors equally often give equal products at every challenge.
-- (Honest: equal_products)
abbrev pub EqualProducts : Type 0
EqualProducts =
    (q : ℕ) (xs ys : List (List ℕ)) (c : List ℕ)
    → EquallyOften xs ys → product q c xs ≡ product q c ys

-- Two lists of n + 1 elements that differ modulo q have equal hashes at no more than n values of r. (Hash: hash_bound)
-- The elements are any numbers, so they may be inner products with further coefficients.
abbrev pub HashBound : Type 0
HashBound =
    (q n : ℕ) (xs ys : List ℕ) → Prime q → length xs ≡ suc n → length ys ≡ suc n → remainders q xs ≢ remainders q ys
    → count q (λ r. eqb (hash q r xs) (hash q r ys)) ≤ n

-- Two different lists of n + 1 vectors of length d with entries below q, each vector hashed as its
-- inner product with w: their hashes are equal at no more than (n + 1) · q ^ d of the q ^ (d + 1)
-- choices of r and w. (WordsHash: words_hash_bound)
abbrev pub WordsHashBound : Type 0
WordsHashBound =
    (q d n : ℕ) (xs ys : List (List ℕ)) → Prime q → length xs ≡ suc n → length ys ≡ suc n → Wide q d xs → Wide q d ys → xs ≢ ys
    → sum q (λ r. sums q d (λ w. bit (eqb (hash q r (map (inner w) xs)) (hash q r (map (inner w) ys))))) ≤ suc n * q ^ d
