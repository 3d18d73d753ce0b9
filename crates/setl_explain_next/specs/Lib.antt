pub mod Candidates
pub mod Firsts
pub mod Next
