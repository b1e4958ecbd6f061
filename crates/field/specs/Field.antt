-- The field of document 01: its prime, and for any modulus q the number of its elements, and its
-- element operations on any numbers.
-- Assumes nothing.
use Rattle.std.specs.Prelude.{ℕ, ◌+◌, ◌*◌, ◌%◌, true}
use Rattle.algebra.specs.Modulo.{plus, minus, times}
use Rattle.algebra.specs.Sum.{count, counts}

-- the prime 2³¹ − 1
unfoldable pub p : ℕ
p = 2147483647

-- the number of elements of the field of a prime: how many numbers are below it
unfoldable pub elements_of : ℕ → ℕ
elements_of q = count q (λ x. true)

-- the number of challenges: "A challenge is four elements r, a, b, c"
unfoldable pub challenges_of : ℕ → ℕ
challenges_of q = counts q 4 (λ w. true)

-- "Additions, products and "−" below are modulo p"
unfoldable pub add_of : ℕ → ℕ → ℕ → ℕ
add_of q x y = plus q x y

unfoldable pub sub_of : ℕ → ℕ → ℕ → ℕ
sub_of q x y = minus q x y

unfoldable pub mul_of : ℕ → ℕ → ℕ → ℕ
mul_of q x y = times q x y

-- "A triple (x, y, z) gives the factor r − (a·x + b·y + c·z)"
unfoldable pub triple_of : ℕ → ℕ → ℕ → ℕ → ℕ → ℕ → ℕ → ℕ → ℕ
triple_of q r a b c x y z = minus q r (a * x + b * y + c * z)

-- "a pair gives r − (a·x + b·y)"
unfoldable pub pair_of : ℕ → ℕ → ℕ → ℕ → ℕ → ℕ → ℕ
pair_of q r a b x y = minus q r (a * x + b * y)

-- a step of the queue's hash: "makes its hash h·r + element"
unfoldable pub horner_of : ℕ → ℕ → ℕ → ℕ → ℕ
horner_of q h r x = (h * r + x) % q
