pub mod Lists
pub mod Keys
pub mod Members
pub mod Numbers
pub mod Trees
pub mod Specs
