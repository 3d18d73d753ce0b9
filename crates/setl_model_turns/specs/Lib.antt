pub mod Laws
pub mod PlaceLaws
