pub mod Sets
pub mod Subsets
pub mod Laws
pub mod code
