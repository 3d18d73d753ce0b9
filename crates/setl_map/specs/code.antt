pub mod Changing
pub mod Points
