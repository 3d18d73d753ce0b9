pub mod Lists
pub mod Binomials
pub mod Spreads
pub mod Sizes
pub mod Operands
pub mod Outcomes
pub mod RangeResults
