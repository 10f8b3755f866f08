pub mod Sums
pub mod Symbols
pub mod Moved
pub mod Channel
pub mod Hard
