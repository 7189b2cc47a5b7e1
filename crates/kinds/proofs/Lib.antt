pub mod Bounds
mod Words
