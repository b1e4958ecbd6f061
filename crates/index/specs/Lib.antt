pub mod Values
pub mod Tree
pub mod Statements
pub mod Promises
