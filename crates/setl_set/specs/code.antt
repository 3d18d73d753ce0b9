pub mod Merge
pub mod Choice
