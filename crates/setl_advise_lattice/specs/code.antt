pub mod Levels
pub mod Within
