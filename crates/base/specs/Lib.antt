pub mod Refusal
pub mod Bits
pub mod Digits
pub mod Places
pub mod private
