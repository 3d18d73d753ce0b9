pub mod Table
pub mod Selected
pub mod code
