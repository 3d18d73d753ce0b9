pub mod Reading
pub mod Scan
pub mod ReadExpressions
pub mod ReadStatements
pub mod ReadModes
pub mod ReadPrograms
