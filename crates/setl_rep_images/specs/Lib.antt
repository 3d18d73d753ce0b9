pub mod Kinds
pub mod Without
