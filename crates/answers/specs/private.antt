-- For our own contracts alone: no promise to a caller needs these files.
pub mod Chains
