pub mod Members
pub mod Entries
pub mod Changes
pub mod Tabled
pub mod Puts
pub mod Inclusions
pub mod Domains
