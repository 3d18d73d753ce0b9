pub mod Tells
pub mod Loads
pub mod Writes
