mod Behind
pub mod Orders
mod Reading
mod Responses
mod Sizes
pub mod Starting
mod Keypads
