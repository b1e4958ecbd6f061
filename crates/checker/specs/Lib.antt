-- What the contracts of crate checker cite beside document 01's definitions.
pub mod Unread
