pub mod Scan
pub mod Statements
pub mod Promises
