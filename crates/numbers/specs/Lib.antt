pub mod Floats
pub mod Options
