-- The hash of a list is the value at r of the polynomial whose coefficients are the list backwards. So two lists of n + 1 elements
-- that differ modulo q have equal hashes at no more than n values of r, and the hash sees only remainders and is below q.
-- Assumes nothing.
use Prim.Native.Nat.{ℕ, ◌+◌, ◌*◌, ◌%◌, ◌≤◌}
use mathlib.Core.Path.{◌≡◌, refl, sym, ◌∙◌, ap, ap₂, subst, fun_ext}
use mathlib.Core.Logic.{◌≢◌}
use mathlib.Core.List.{List, [], ◌∷◌, reverse, reverse_aux}
use mathlib.Mathlib.Data.List.Basic.{reverse-Injective, map-reverse_aux}
use native.Mathlib.Nat.{zero-mod}
use native.Mathlib.Omega.{arith}
use lib.Dec.{eqb}
use lib.ListN.{length-reverse}
use Rattle.algebra.specs.Sum.{count}
use Rattle.algebra.specs.Modulo.{Same}
use Rattle.algebra.specs.Vector.{remainders}
use Rattle.algebra.specs.Polynomial.{eval}
use Rattle.algebra.specs.Hash.{hash, hash_from}
use Rattle.algebra.specs.Statements.{HashBound}
use Rattle.algebra.proofs.Modulo.{same_refl, same_mod, same_add, same_mul}
use Rattle.algebra.proofs.Roots.{agree_bound}

-- from the value of the coefficients cs, the hash of xs is the value of xs backwards followed by cs
hash_from_eval : (q r : ℕ) (xs cs : List ℕ) → hash_from q r (eval cs r % q) xs ≡ eval (reverse_aux xs cs) r % q
unfolding hash_from eval
hash_from_eval q r [] cs = refl
hash_from_eval q r (x ∷ xs) cs = ap (λ (h : ℕ). hash_from q r h xs) step ∙ hash_from_eval q r xs (x ∷ cs)
  where
    reduced : Same q (eval cs r % q * r + x) (eval cs r * r + x)
    reduced = same_add (same_mul (same_mod q (eval cs r)) same_refl) same_refl

    step : (eval cs r % q * r + x) % q ≡ eval (x ∷ cs) r % q
    step = reduced.same ∙ ap (λ (t : ℕ). t % q) (omega arith)

-- the hash as the value of a polynomial
pub hash_eval : (q r : ℕ) (xs : List ℕ) → hash q r xs ≡ eval (reverse xs) r % q
unfolding hash eval
hash_eval q r xs = ap (λ (h : ℕ). hash_from q r h xs) (sym (zero-mod q)) ∙ hash_from_eval q r xs []

-- two lists of n + 1 elements that differ modulo q have equal hashes at no more than n values of r
pub hash_bound : HashBound
unfolding remainders
hash_bound q n xs ys prime lx ly ne =
    subst (λ f. count q f ≤ n) (fun_ext λ r. ap₂ eqb (sym (hash_eval q r xs)) (sym (hash_eval q r ys)))
    (agree_bound q n (reverse xs) (reverse ys) prime (omega (arith, length-reverse xs)) (omega (arith, length-reverse xs, length-reverse ys)) backwards)
  where
    backwards : remainders q (reverse xs) ≢ remainders q (reverse ys)
    backwards e = ne (reverse-Injective _ _ (sym (map-reverse_aux (λ x. x % q) xs []) ∙ (e ∙ map-reverse_aux (λ x. x % q) ys [])))
