pub mod LineEnds
pub mod Parts
pub mod Turns
