pub mod NameLists
pub mod Appends
pub mod Among
pub mod Elements
mod Lines
pub mod Unknown
