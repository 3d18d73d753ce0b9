pub mod CodeFiles
pub mod Laws
