pub mod Comparing
pub mod private
