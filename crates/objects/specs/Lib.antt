pub mod Lent
pub mod Objects
pub mod Parts
pub mod Reads
pub mod Writes
