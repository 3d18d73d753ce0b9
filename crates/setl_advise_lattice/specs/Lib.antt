pub mod Same
pub mod code
