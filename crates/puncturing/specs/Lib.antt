pub mod Puncturing
pub mod private
