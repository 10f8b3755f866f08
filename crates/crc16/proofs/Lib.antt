pub mod Steps
pub mod Checks
pub mod Retired
