pub mod Encoding
pub mod Delays
pub mod Taps
pub mod Refusing
pub mod Running
pub mod Calls
pub mod Retired
