pub mod Flow
pub mod Has
pub mod Operators
pub mod Expressions
pub mod Invariant
pub mod Advice
pub mod Claims
pub mod Rows
