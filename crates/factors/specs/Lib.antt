-- What the contracts of crate factors cite beside document 01's definitions.
pub mod Left
