pub mod Fronts
pub mod Loop
