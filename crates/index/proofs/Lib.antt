pub mod Values
pub mod Places
pub mod Sides
pub mod Links
pub mod Search
pub mod Insertion
pub mod Promises
