pub mod Status
pub mod Seen
pub mod Lines
pub mod Reasons
pub mod Ends
pub mod code
