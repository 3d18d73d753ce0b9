pub mod HasForm
pub mod Places
pub mod Contents
