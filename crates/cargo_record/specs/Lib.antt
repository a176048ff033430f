pub mod Kept
pub mod Fitting
pub mod Lines
pub mod Members
pub mod Refused
