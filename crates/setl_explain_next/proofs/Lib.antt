pub mod FirstLaws
pub mod Faults
