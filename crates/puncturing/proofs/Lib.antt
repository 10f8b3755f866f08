pub mod Refusing
pub mod Modes
pub mod Walking
pub mod Carrying
pub mod Steps
pub mod Undone
pub mod Retired
