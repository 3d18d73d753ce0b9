pub mod Components
pub mod Charges
pub mod Steps
pub mod Strict
pub mod Counts
