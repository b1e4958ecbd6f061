-- Every statement of this crate is proved.
-- Assumes nothing.
use Rattle.algebra.specs.Promises.{Promises}
use Rattle.algebra.proofs.Certificate.{certified_prime}
use Rattle.algebra.proofs.Euclid.{zero_product}
use Rattle.algebra.proofs.Sum.{sums_monotone, sums_additive, sums_constant, sums_swap, sums_shift, union_bound, witness}
use Rattle.algebra.proofs.Roots.{roots_bound}
use Rattle.algebra.proofs.Plane.{plane_bound}
use Rattle.algebra.proofs.Shuffle.{shuffle_bound}
use Rattle.algebra.proofs.Honest.{equal_products}
use Rattle.algebra.proofs.Hash.{hash_bound}
use Rattle.algebra.proofs.WordsHash.{words_hash_bound}

pub promises : Promises
promises = record {
  certified = certified_prime;
  zero_product = zero_product;
  sums_monotone = sums_monotone;
  sums_additive = sums_additive;
  sums_constant = sums_constant;
  sums_swap = sums_swap;
  sums_shift = sums_shift;
  union_bound = union_bound;
  witness = witness;
  roots_bound = roots_bound;
  plane_bound = plane_bound;
  shuffle_bound = shuffle_bound;
  equal_products = equal_products;
  hash_bound = hash_bound;
  words_hash_bound = words_hash_bound;
}
