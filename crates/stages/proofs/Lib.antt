pub mod Calls
pub mod Route
pub mod Pieces
pub mod Passage
pub mod Places
pub mod Entries
pub mod Demand
