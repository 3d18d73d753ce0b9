pub mod Place
pub mod FieldState
pub mod Entries
