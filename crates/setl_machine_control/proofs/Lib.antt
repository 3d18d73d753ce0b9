pub mod Denotations
pub mod Ending
