pub mod Division
pub mod Dividend
pub mod Sums
pub mod Shape
pub mod Remainder
pub mod Retired
