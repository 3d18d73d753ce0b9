pub mod Tables
pub mod Altered
pub mod Deciding
pub mod Freely
pub mod Gaining
