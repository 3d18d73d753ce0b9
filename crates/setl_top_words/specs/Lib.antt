pub mod Words
pub mod Line
pub mod Told
pub mod code
