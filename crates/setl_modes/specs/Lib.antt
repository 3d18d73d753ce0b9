pub mod Modes
pub mod Declarations
pub mod Fits
pub mod FitLaws
