pub mod Finding
pub mod Growing
