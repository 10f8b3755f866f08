pub mod Interleaving
pub mod private
