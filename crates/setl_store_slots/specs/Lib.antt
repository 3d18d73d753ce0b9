pub mod Slots
pub mod Handed
pub mod Updates
