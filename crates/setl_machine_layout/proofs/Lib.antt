pub mod Entering
pub mod Ends
