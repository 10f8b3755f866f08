pub mod Linear
pub mod private
