pub mod Notices
pub mod Watches
pub mod Traces
pub mod Covers
pub mod Profiles
pub mod HitCounts
pub mod code
