pub mod Next
pub mod Explanations
