-- What only our own contracts need: no reader has to believe it.
-- Assumes nothing.
pub mod Codes
pub mod Generators
pub mod Tapping
