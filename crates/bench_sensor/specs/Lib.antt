pub mod Kept
pub mod Told
