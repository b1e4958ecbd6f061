pub mod Progress
pub mod Statements
pub mod Promises
