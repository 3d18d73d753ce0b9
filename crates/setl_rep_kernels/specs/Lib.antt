pub mod Parts
pub mod Kernels
pub mod Changes
