pub mod Combined
pub mod Exact
pub mod ExactSteps
pub mod ExactModes
pub mod ExactNames
pub mod ExactImage
