pub mod SoundImage
pub mod Counts
pub mod Laws
