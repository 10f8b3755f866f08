pub mod Sending
pub mod Receiving
pub mod Hearing
pub mod private
