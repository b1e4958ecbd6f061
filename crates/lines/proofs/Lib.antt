pub mod Parse
pub mod Same
