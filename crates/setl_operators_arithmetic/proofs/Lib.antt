pub mod Unions
pub mod Views
pub mod Rows
