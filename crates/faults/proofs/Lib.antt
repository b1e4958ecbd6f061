pub mod Inputs
pub mod Codes
pub mod Scanned
pub mod FirstFault
pub mod Promises
