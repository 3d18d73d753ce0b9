pub mod Rules
pub mod Declares
pub mod Breaking
pub mod code
