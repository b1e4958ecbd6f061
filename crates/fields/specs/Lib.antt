pub mod Written
pub mod Keyed
