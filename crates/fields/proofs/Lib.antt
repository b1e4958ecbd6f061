pub mod Elements
pub mod Fields
pub mod Parts
