pub mod Judging
pub mod Readings
pub mod Table
