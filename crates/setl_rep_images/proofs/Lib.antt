mod Shallow
mod Selected
mod Points
mod Removed
