pub mod Runs
pub mod Joins
pub mod Effects
pub mod Tables
