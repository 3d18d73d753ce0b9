pub mod InForm
pub mod Updates
pub mod Changed
pub mod code
