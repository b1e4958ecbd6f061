pub mod Packed
pub mod Counted
