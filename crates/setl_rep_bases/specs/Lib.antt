pub mod BaseId
pub mod Bases
pub mod Tables
pub mod Keeping
pub mod Reading
pub mod Marks
pub mod Cutting
