-- What only our own contracts need: no reader has to believe it.
-- Assumes nothing.
pub mod Parts
