pub mod Operands
pub mod Lending
pub mod Laws
