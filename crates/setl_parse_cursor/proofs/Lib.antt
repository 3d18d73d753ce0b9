pub mod Plain
pub mod Undoubled
pub mod Clean
pub mod Slots
pub mod Turns
pub mod Onto
