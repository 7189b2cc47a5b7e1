pub mod Events
pub mod Settings
pub mod Stores
pub mod Strikes
pub mod Taught
pub mod Turns
