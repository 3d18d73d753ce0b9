pub mod Entering
pub mod Laws
pub mod code
