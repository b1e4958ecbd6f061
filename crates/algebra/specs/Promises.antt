-- Every statement of this crate, as the fields of one record: a proof of it is a proof of each. (Promises: promises)
-- Assumes nothing.
use Rattle.algebra.specs.Statements.{CertifiedPrime, ZeroProduct, SumsMonotone, SumsAdditive, SumsConstant, SumsSwap, SumsShift, UnionBound, Witness, RootsBound, PlaneBound, ShuffleBound, EqualProducts, HashBound, WordsHashBound}

pub record Promises : Type 0 where
  pub certified : CertifiedPrime
  pub zero_product : ZeroProduct
  pub sums_monotone : SumsMonotone
  pub sums_additive : SumsAdditive
  pub sums_constant : SumsConstant
  pub sums_swap : SumsSwap
  pub sums_shift : SumsShift
  pub union_bound : UnionBound
  pub witness : Witness
  pub roots_bound : RootsBound
  pub plane_bound : PlaneBound
  pub shuffle_bound : ShuffleBound
  pub equal_products : EqualProducts
  pub hash_bound : HashBound
  pub words_hash_bound : WordsHashBound
