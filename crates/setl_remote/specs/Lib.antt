pub mod Words
pub mod Operation
pub mod Slots
pub mod formers
