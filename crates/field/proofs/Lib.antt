pub mod Fold
pub mod Reduction
pub mod Variants
pub mod Congruence
