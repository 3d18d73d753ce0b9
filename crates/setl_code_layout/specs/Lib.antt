pub mod Layout
pub mod WorkedLayouts
pub mod Claims
