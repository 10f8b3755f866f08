pub mod Kinds
pub mod Recording
