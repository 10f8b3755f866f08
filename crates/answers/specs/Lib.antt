pub mod private
pub mod Answering
