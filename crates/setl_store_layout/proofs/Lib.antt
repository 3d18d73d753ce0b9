pub mod Agreeing
pub mod Telling
pub mod Finding
pub mod Storing
pub mod Walking
pub mod Naming
