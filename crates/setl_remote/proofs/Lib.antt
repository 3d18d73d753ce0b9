pub mod Bit
pub mod Members
pub mod Counts
pub mod Writing
pub mod Combining
pub mod Slot
pub mod Listing
