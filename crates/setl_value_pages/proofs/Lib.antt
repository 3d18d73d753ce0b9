pub mod PageLists
pub mod PageSizes
pub mod PagesFilled
