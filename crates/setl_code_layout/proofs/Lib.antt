pub mod Same
pub mod Variables
pub mod Ends
