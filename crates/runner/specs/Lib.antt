pub mod Loop
pub mod private
