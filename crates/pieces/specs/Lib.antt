pub mod Block
pub mod Calls
pub mod Statements
pub mod Promises
