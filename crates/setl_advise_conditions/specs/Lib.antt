pub mod Conditions
pub mod Parts
pub mod Grown
pub mod Rank
pub mod RankLaws
pub mod Claims
