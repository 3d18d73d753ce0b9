pub mod Written
pub mod Tested
pub mod code
