pub mod Files
pub mod Failures
pub mod Reading
pub mod Asking
pub mod Lists
pub mod Conversions
pub mod Maker
pub mod Running
