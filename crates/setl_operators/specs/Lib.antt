pub mod Combinations
pub mod Readers
