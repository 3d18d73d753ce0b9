pub mod ModeCodes
pub mod Facts
pub mod Finding
pub mod Fitting
pub mod Entries
pub mod Tabling
pub mod Heights
