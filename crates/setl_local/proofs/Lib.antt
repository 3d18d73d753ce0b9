pub mod Outcomes
pub mod Places
pub mod States
