pub mod Narrow
pub mod Products
pub mod Powers
pub mod Remainders
pub mod Copies
