pub mod Found
pub mod Members
pub mod Numbers
pub mod Walk
