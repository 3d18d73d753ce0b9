pub mod Screens
pub mod Followed
pub mod Taken
pub mod Refusals
