pub mod Copies
pub mod Plan
pub mod TextMap
pub mod MemFiles
pub mod MemSource
pub mod MemSink
