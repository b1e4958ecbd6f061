-- 2 ^ 31 − 1 is prime, by its certificate.
-- Assumes nothing.
use mathlib.Core.List.{[], ◌∷◌}
use Rattle.algebra.specs.Prime.{Prime, certified, multiply, power, undivided, tried, proper}
use Rattle.algebra.proofs.Certificate.{certified_prime}

-- the base 7 has order 2147483646 modulo 2147483647
pub prime_p : Prime 2147483647
unfolding certified multiply power undivided tried proper
prime_p = certified_prime 2147483647 7 (2 ∷ 3 ∷ 3 ∷ 7 ∷ 11 ∷ 31 ∷ 151 ∷ 331 ∷ []) tt
