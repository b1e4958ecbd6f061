pub mod Statements
pub mod Promises
