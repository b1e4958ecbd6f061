pub mod File
pub mod Places
pub mod Promises
