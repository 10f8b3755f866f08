-- What only our own contracts need: no reader has to believe it.
-- Assumes nothing.
pub mod Divisors
pub mod Lines
pub mod Walk
