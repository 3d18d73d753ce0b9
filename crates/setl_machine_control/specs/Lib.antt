pub mod Control
pub mod Declaring
pub mod Answers
pub mod Working
pub mod Reading
pub mod Settling
pub mod Laws
pub mod Gaining
