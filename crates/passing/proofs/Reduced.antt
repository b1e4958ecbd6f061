-- What the code computes from reduced numbers is what the definitions say of the numbers themselves: the queue's factor and its product.
-- Assumes nothing.
use Prim.Native.Nat.{ℕ, ◌+◌, ◌%◌}
use mathlib.Core.Path.{◌≡◌, ap}
use native.Mathlib.Nat.{mul-one}
use Rattle.algebra.specs.Modulo.{plus, minus, times}
use Rattle.algebra.proofs.Modulo.{mod_difference}
use Rattle.field.specs.Field.{add_of, sub_of, mul_of}

-- the queue's product after a dequeue
pub dequeue_product :
    (q x up down g : ℕ) → mul_of q x (sub_of q (add_of q up 1) (add_of q down g)) ≡ times q x (minus q (up + 1) (down + g))
unfolding mul_of sub_of add_of plus
dequeue_product q x up down g = ap (times q x) (mod_difference q (up + 1) (down + g))

-- a product by 1 is the remainder
pub product_by_one : (q x : ℕ) → x % q ≡ times q x 1
unfolding times
product_by_one q x = simp mul-one
