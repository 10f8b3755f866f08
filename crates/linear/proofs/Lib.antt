pub mod Maps
pub mod WrongBits
