pub mod Written
pub mod Digits
