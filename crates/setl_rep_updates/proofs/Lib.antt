pub mod Staying
pub mod Including
pub mod Contents
pub mod Imaging
pub mod Cutting
pub mod Adding
pub mod Removing
pub mod Excluding
