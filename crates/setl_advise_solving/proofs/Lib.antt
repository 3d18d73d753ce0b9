pub mod Rooms
pub mod Rounds
pub mod Works
