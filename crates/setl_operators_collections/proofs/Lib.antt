pub mod Rows
pub mod Depths
pub mod Letters
pub mod Takings
