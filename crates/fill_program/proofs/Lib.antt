pub mod Printed
pub mod Promises
