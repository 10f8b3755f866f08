pub mod Divisors
pub mod Inverse
pub mod Walk
pub mod Block
pub mod Matrix
pub mod Cases
pub mod Retired
