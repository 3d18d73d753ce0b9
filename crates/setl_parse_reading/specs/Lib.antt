pub mod Fronts
pub mod Claims
pub mod code
