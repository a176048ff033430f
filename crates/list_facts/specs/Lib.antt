pub mod Texts
pub mod Ascending
pub mod Writers
