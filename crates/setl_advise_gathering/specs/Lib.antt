pub mod code
pub mod Walked
