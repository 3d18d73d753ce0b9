pub mod TextParts
pub mod Scans
pub mod Reads
