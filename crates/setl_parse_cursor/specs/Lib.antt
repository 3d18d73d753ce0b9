pub mod Plain
pub mod code
