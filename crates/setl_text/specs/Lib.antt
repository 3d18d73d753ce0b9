pub mod Texts
pub mod Bytes
pub mod Denoted
pub mod Reading
pub mod Laws
pub mod Samples
pub mod code
