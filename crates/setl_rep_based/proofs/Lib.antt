pub mod Building
pub mod Numbering
pub mod Handling
pub mod Changing
pub mod Walking
