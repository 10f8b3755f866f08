pub mod Answer
pub mod Promises
pub mod Version
pub mod private
