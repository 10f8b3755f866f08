pub mod Outputs
pub mod AtOnce
pub mod Blocks
pub mod Fours
pub mod Starts
pub mod Retired
