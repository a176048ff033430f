pub mod Laws
pub mod Orders
pub mod Served
pub mod Tables
