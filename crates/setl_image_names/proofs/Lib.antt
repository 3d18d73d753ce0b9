pub mod NewNames
pub mod Once
