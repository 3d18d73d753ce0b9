pub mod Elaborators
pub mod Chains
