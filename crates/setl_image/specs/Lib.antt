pub mod Views
pub mod ModeText
pub mod Marks
