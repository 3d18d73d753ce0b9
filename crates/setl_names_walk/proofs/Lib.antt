pub mod NameLists
pub mod Own
pub mod Whole
pub mod Formers
pub mod Alone
