-- 2 ^ 61 − 1 is prime, by its certificate.
-- Assumes nothing.
use mathlib.Core.List.{[], ◌∷◌}
use Rattle.algebra.specs.Prime.{Prime, certified, multiply, power, undivided, tried, proper}
use Rattle.algebra.proofs.Certificate.{certified_prime}

-- the base 37 has order 2305843009213693950 modulo 2305843009213693951
pub prime_61 : Prime 2305843009213693951
unfolding certified multiply power undivided tried proper
prime_61 =
    certified_prime 2305843009213693951 37 (2 ∷ 3 ∷ 3 ∷ 5 ∷ 5 ∷ 7 ∷ 11 ∷ 13 ∷ 31 ∷ 41 ∷ 61 ∷ 151 ∷ 331 ∷ 1321 ∷ []) tt
