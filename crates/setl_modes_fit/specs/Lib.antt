pub mod Neighbours
pub mod Laws
