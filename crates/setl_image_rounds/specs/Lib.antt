pub mod Falling
