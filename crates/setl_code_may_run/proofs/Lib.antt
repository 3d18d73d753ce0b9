pub mod Pieces
pub mod Storing
pub mod Expressions
pub mod Statements
pub mod Names
pub mod Slots
pub mod Running
