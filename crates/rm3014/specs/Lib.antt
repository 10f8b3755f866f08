pub mod Code
pub mod Verdict
pub mod Original
