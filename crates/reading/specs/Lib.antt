pub mod Turns
pub mod Asking
pub mod Reading
pub mod Pieces
pub mod Words
pub mod private
