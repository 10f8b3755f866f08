pub mod Numbers
pub mod Chains
pub mod RoundTrip
pub mod Examples
pub mod Retired
