pub mod Printable
pub mod Laws
