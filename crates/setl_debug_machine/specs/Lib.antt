pub mod Screens
pub mod Runs
pub mod Growing
pub mod code
