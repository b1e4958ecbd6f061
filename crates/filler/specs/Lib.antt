pub mod Answer
pub mod Words
pub mod Steps
pub mod Ends
pub mod Write
