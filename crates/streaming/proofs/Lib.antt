pub mod Feeding
pub mod Waiting
pub mod Stepping
pub mod Keeping
pub mod Closing
pub mod Examples
