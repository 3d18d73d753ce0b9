pub mod Standing
pub mod Telling
pub mod ByTable
pub mod ByKernel
pub mod OwnForm
