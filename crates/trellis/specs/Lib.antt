pub mod Nearest
pub mod Walk
pub mod Trellis
pub mod private
