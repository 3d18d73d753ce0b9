pub mod Lists
pub mod Operands
pub mod Wholes
pub mod IntegerSteps
pub mod PointSteps
pub mod Ends
