pub mod Added
pub mod Entered
pub mod Imaged
