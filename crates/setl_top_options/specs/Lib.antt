pub mod Watchers
pub mod code
