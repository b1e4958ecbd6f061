pub mod Progress
pub mod Ending
pub mod Statements
pub mod Promises
