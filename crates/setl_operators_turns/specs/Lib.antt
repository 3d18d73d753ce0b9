pub mod Outcomes
pub mod Free
pub mod Operators
pub mod Laws
