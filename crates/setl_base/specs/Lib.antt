pub mod Base
pub mod Later
pub mod Least
pub mod Rows
pub mod Table
