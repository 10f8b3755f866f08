pub mod Table
pub mod Tables
