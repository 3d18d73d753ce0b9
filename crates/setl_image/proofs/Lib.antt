pub mod ModeSteps
pub mod Marking
pub mod Decoding
pub mod Dependent
