pub mod Runner
pub mod Limits
pub mod private
