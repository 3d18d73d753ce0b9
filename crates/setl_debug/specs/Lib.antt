pub mod Sessions
pub mod Ends
pub mod code
