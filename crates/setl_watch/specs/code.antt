pub mod NoticeCode
pub mod NoticeOf
pub mod Telling
