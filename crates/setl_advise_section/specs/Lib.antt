pub mod Text
pub mod Section
pub mod code
