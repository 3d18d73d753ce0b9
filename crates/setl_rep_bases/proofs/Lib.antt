pub mod Ids
pub mod Tabled
pub mod Blocks
pub mod Reading
pub mod Cutting
pub mod Bringing
