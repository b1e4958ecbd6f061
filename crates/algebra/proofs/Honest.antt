-- The honest side of the shuffle: lists that hold the same vectors equally often have equal
-- products at every challenge.
-- Assumes nothing.
use Prim.Native.Nat.{ℕ, ◌*◌, ◌%◌}
use mathlib.Core.Path.{◌≡◌, refl, sym, ◌∙◌, ap}
use mathlib.Core.List.{List, [], ◌∷◌, ◌++◌}
use native.Mathlib.Omega.{arith}
use Rattle.algebra.specs.Modulo.{Same, times}
use Rattle.algebra.specs.Shuffle.{factor, product}
use Rattle.algebra.specs.Statements.{EqualProducts}
use Rattle.algebra.proofs.Modulo.{same_refl, same_sym, same_trans, same_of_eq, same_mod, same_mul}
use Rattle.algebra.proofs.Multiset.{Present, without, often_without, often_length, often_cancel, often_trans, present_vector}

-- two factors of a product modulo q change places
pub times_swap : (q x y z : ℕ) → times q x (times q y z) ≡ times q y (times q x z)
unfolding times
times_swap q x y z = swapped.same
  where
    swapped : Same q (x * ((y * z) % q)) (y * ((x * z) % q))
    swapped =
        same_trans (same_mul same_refl (same_mod q (y * z)))
        (same_trans (same_of_eq (omega arith)) (same_sym (same_mul same_refl (same_mod q (x * z)))))

module _ (q : ℕ) (c : List ℕ) where
  -- a vector from the middle of a list moved to its front leaves the product as it is
  pub product_move : (us : List (List ℕ)) (x : List ℕ) (vs : List (List ℕ)) → product q c (us ++ (x ∷ vs)) ≡ product q c (x ∷ (us ++ vs))
  unfolding product
  product_move [] x vs = refl
  product_move (u ∷ us) x vs =
      ap (times q (factor q c u)) (product_move us x vs) ∙ times_swap q (factor q c u) (factor q c x) (product q c (us ++ vs))

  -- the product of a list with a vector taken out, and put in front
  pub product_without : {x : List ℕ} {ys : List (List ℕ)} (p : Present x ys) → product q c ys ≡ product q c (x ∷ without p)
  unfolding without
  product_without {x} p = ap (product q c) p.parts ∙ product_move p.before x p.behind

-- the vectors of the first list are taken out of the second one by one
pub equal_products : EqualProducts
unfolding product
equal_products q [] [] c h = refl
equal_products q [] (y ∷ ys) c h = absurd (omega (arith, often_length [] (y ∷ ys) h))
equal_products q (x ∷ xs) ys c h =
    let p = present_vector x xs ys h in
    let rest = often_cancel x xs (without p) (often_trans (x ∷ xs) ys (x ∷ without p) h (often_without p)) in
    ap (times q (factor q c x)) (equal_products q xs (without p) c rest)
    ∙ sym (product_without q c p)
