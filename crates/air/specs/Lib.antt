pub mod Channel
pub mod Demand
