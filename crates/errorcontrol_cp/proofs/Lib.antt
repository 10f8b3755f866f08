pub mod Rows
pub mod Refusals
pub mod Parts
pub mod Words
pub mod Demand
pub mod Chains
pub mod RoundTrip
pub mod Retired
