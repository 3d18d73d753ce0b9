pub mod Effects
pub mod Opens
pub mod Texts
pub mod code
