pub mod Integers
pub mod Texts
