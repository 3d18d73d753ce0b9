pub mod Variable
pub mod VariableLaws
pub mod Turns
pub mod Events
pub mod Run
pub mod RunLaws
