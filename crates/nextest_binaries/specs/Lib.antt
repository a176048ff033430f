pub mod BinaryIds
pub mod Platforms
pub mod Queries
pub mod Asking
pub mod Faults
pub mod FileListers
pub mod Listers
pub mod Listings
