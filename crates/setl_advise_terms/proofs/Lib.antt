pub mod Links
pub mod Sources
pub mod Parts
pub mod Targets
pub mod Keys
pub mod Lookups
pub mod Ranks
