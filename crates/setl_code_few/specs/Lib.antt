pub mod Claims
pub mod Markings
