pub mod Scripts
pub mod Follows
