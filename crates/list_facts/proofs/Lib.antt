pub mod Membership
pub mod Quantifiers
pub mod Lists
pub mod Ascending
pub mod Written
pub mod Counting
pub mod Tests
