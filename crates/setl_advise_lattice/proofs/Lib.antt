pub mod Lengths
pub mod Sames
