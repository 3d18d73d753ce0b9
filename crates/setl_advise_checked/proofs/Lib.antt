pub mod ModeCodes
pub mod Declared
