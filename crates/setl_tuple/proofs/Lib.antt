pub mod Trimmed
pub mod Depths
pub mod Puts
