pub mod Told
pub mod Notes
