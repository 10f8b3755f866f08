pub mod Generators
pub mod private
