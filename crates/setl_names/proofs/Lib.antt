pub mod NameLists
pub mod Calls
pub mod Tables
