pub mod Codec
pub mod Numbers
pub mod Texts
pub mod Given
