pub mod Orders
pub mod Caps
pub mod Joins
pub mod Transfers
pub mod Puts
pub mod Shapes
pub mod Terms
pub mod Grows
