pub mod Constants
pub mod Claims
