pub mod Selectors
pub mod Updates
pub mod Takes
pub mod Parts
pub mod Changing
