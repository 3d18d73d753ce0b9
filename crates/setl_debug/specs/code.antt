pub mod Hits
pub mod Steps
