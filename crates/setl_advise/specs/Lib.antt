pub mod Advice
pub mod Claims
pub mod code
