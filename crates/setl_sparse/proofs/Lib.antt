pub mod Members
pub mod Lists
pub mod Tables
pub mod Reading
