pub mod Machines
pub mod Walks
