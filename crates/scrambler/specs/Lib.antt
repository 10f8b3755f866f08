pub mod Scrambling
pub mod private
