pub mod Following
pub mod Going
