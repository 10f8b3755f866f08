pub mod Decoding
pub mod Hearing
pub mod Walking
pub mod private
