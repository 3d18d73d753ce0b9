pub mod Tests
pub mod Taken
pub mod Elements
