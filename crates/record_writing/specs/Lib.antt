pub mod Members
pub mod Rows
pub mod Choices
pub mod Maps
pub mod Files
