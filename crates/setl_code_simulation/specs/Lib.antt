pub mod Follow
pub mod States
pub mod Matches
pub mod Claims
pub mod WorkedStates
