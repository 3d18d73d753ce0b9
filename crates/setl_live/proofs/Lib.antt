pub mod OwnSlots
pub mod Paths
pub mod Bodies
pub mod Tables
pub mod TakesTold
