mod Packing
pub mod ProcessData
mod Backward
