pub mod ValueLaws
pub mod Lists
pub mod Outcomes
pub mod SetValues
pub mod TupleValues
pub mod Ranges
pub mod MapValues
pub mod Texts
