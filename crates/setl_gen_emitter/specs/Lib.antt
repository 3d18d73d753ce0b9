pub mod Emitted
pub mod EmittedLaws
pub mod Items
pub mod ShortCode
pub mod Slots
pub mod Table
pub mod TableLaws
