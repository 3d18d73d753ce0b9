pub mod Maps
pub mod Laws
pub mod DepthLaws
pub mod code
