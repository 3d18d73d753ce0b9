pub mod CodecClaims
pub mod Table
pub mod Steps
pub mod ModeCodec
pub mod OwnNames
pub mod ImageCodec
pub mod Claims
