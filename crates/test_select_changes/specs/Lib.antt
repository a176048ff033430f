pub mod Changes
pub mod Folders
pub mod Listings
pub mod PartViews
pub mod ChangedFilters
pub mod Laws
