pub mod Members
pub mod Laid
pub mod Texts
pub mod Listing
pub mod Found
pub mod Values
