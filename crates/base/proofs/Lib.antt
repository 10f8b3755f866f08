pub mod Lists
pub mod Moves
pub mod BitLaws
pub mod DigitLaws
pub mod Table
pub mod Xor
pub mod Refusals
