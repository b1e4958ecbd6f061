pub mod Texts
pub mod Endings
pub mod Program
pub mod Promises
