pub mod Contents
pub mod Laws
pub mod code
