pub mod Pages
pub mod Exchange
pub mod ListLaws
pub mod PageLaws
