pub mod Links
pub mod Statements
pub mod Passes
