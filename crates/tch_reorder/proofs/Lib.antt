pub mod Permutation
pub mod Laws
pub mod Retired
