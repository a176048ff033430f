pub mod Checker
