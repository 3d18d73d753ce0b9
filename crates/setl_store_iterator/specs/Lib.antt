pub mod States
pub mod Items
pub mod Integers
pub mod Points
pub mod Rests
pub mod Operands
pub mod Starts
