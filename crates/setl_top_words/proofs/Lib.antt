pub mod Order
pub mod Commands
pub mod Refused
pub mod Building
