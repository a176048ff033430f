pub mod Asking
pub mod LineFeeds
pub mod Repeats
pub mod Taking
