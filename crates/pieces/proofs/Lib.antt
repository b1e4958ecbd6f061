pub mod Feeds
pub mod Block
pub mod Calls
pub mod Handed
pub mod More
pub mod Promises
