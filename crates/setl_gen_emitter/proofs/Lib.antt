pub mod ShortPieces
pub mod SlotTables
pub mod Stepping
pub mod Stores
