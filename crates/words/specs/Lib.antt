pub mod Inputs
pub mod Cells
pub mod Counts
