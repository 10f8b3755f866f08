-- What only our own contracts need: no reader has to believe it.
-- Assumes nothing.
pub mod Tables
pub mod Ways
pub mod Walk
