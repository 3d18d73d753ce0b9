pub mod Deeper
pub mod Slots
pub mod Many
