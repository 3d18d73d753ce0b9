pub mod Own
pub mod Scopes
pub mod Walks
pub mod Found
pub mod Breaking
